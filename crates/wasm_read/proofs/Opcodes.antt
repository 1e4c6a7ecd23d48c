-- Rows of opcodes.
use Rattle.std.proofs.Common.{◌≡◌, ℕ, ◌-◌, ◌<◌, ◌≤◌, ◌∙◌, arith}
use Rattle.std.specs.Prelude.{slice_get}
use Rattle.wasm_spec.specs.declared.opcodes.TheConstants.{COMPARISONS, ARITHMETIC, SIGN_EXTENSIONS}
use Rattle.wasm_spec.specs.Opcodes.{numeric_of, sign_extension_of}
use Rattle.wasm_read.proofs.OpLaws.{above, below}

pub comparison : (b : ℕ) → 0x45 ≤ b → b < 0x67 → numeric_of b ≡ slice_get COMPARISONS (b - 0x45)
comparison b le lt = above b 0x45 _ _ le ∙ below b 0x67 _ _ lt

pub arithmetic : (b : ℕ) → 0x67 ≤ b → b < 0xA7 → numeric_of b ≡ slice_get ARITHMETIC (b - 0x67)
arithmetic b le lt = above b 0x45 _ _ (omega arith) ∙ above b 0x67 _ _ le ∙ below b 0xA7 _ _ lt

pub sign_extension : (b : ℕ) → 0xC0 ≤ b → sign_extension_of b ≡ slice_get SIGN_EXTENSIONS (b - 0xC0)
sign_extension b le = above b 0xC0 _ _ le
