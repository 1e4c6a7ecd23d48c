use Rattle.std.proofs.Common.{◌≡◌, take}
use Rattle.value_types.specs.declared.address.ScAddress.TheVariants.{Account}
use Rattle.auth_notes.specs.Recording.{notes_of, pair_at, best}
use Rattle.auth_notes.specs.Indices.{spelled}
use Rattle.auth_notes.proofs.forest.find.Given as goal

abbrev pub invariant-loop-number : goal.invariant-loop-number
invariant-loop-number l = record {
  so_far : pair_at l.forest.notes.items l.found ≡ best (notes_of l.forest.notes.items) (take l.number-index l.path) (Account l.fn.account);
  key_is : l.key.items ≡ spelled (Account l.fn.account) (take l.number-index l.path);
}
