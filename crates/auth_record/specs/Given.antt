-- The terms of a recording, as the program has them (own).
use Rattle.auth_record.specs.declared.trees.Terms.{Terms as Terms'}
use Rattle.record_spec.specs.Trees.{Terms}

abbrev pub terms_in : Terms' → Terms
terms_in t = record { nonce = t.nonce; expiration = t.expiration }
