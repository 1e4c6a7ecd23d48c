-- What a whole run leaves at keys that it does not write.
use Rattle.std.proofs.Common.{◌≡◌, ℕ, List, [], ◌∷◌, Option, Some, None, Bool, true, false, refl, sym, ap, ◌∙◌}
use Rattle.std.specs.Prelude.{if◌then◌else◌, ◌&&◌}
use Rattle.std.specs.Option.{option_or}
use Rattle.std.specs.Str.{bytes_eq}
use Rattle.std.proofs.lemmas.Slice.Eq.{bytes_eq-Decides}
use Rattle.tx_xdr.specs.declared.transaction.Footprint.{Footprint}
use Rattle.ledger_spec.specs.LedgerMap.{key_bytes}
use Rattle.stage_runs.specs.Maps.{has_bytes}
use Rattle.stage_runs.proofs.Lemmas.{both_false}
use Rattle.call_spec.specs.World.{AccessKind, Read, Extend, Write, Judge, Access}
use Rattle.call_spec.specs.Acts.{world_of}
use Rattle.call_spec.specs.WholeRuns.{all_allowed, whole}
use Rattle.call_spec.specs.Footprints.{by_footprint, allows, first_rejected}
use Rattle.call_spec.specs.Laws.{is_write, writes_in, WrittenLaw, ReadOnlyLaw}
use Rattle.call_spec.proofs.Accesses.{newest_allowed}
use Rattle.call_spec.proofs.Frames.{unwatched, unwatched_fair}
use Rattle.call_spec.proofs.HostFunctions.{run_quiet}

pub written_law : WrittenLaw
written_law header authority instructions work entries key = run_quiet all_allowed entries entries (unwatched header) (λ kind k e. refl) header authority (unwatched_fair header) instructions work key

-- ---- the accesses that a footprint allows

older_clean : (may : Judge) (a : Access) (older : List Access) → option_or (first_rejected may older) (if allows may a then None else Some a) ≡ None → first_rejected may older ≡ None
older_clean may a older e = at (first_rejected may older) e
  where
    at : (x : Option Access) → option_or x (if allows may a then None else Some a) ≡ None → x ≡ None
    at None h = refl
    at (Some b) h = absurd cc

-- an allowed write is one of a key that is declared read-write
no_write : (footprint : Footprint) (kind : AccessKind) (written key : List ℕ) → by_footprint footprint kind written ≡ true → has_bytes footprint.read_write key ≡ false → (is_write kind && bytes_eq key written) ≡ false
no_write footprint Read written key allowed h = refl
no_write footprint Extend written key allowed h = refl
no_write footprint Write written key allowed h = at (bytes_eq key written) refl
  where
    at : (b : Bool) → bytes_eq key written ≡ b → b ≡ false
    at true e = sym allowed ∙ ap (has_bytes footprint.read_write) (sym ((bytes_eq-Decides key written).0 e)) ∙ h
    at false e = refl

unwritten : (footprint : Footprint) (key : List ℕ) (trace : List Access) → first_rejected (by_footprint footprint) trace ≡ None → has_bytes footprint.read_write key ≡ false → writes_in trace key ≡ false
unwritten footprint key [] clean h = refl
unwritten footprint key (a ∷ older) clean h =
    both_false (is_write a.kind && bytes_eq key (key_bytes a.key)) (writes_in older key)
    (no_write footprint a.kind (key_bytes a.key) key (newest_allowed (by_footprint footprint) a older clean) h)
    (unwritten footprint key older (older_clean (by_footprint footprint) a older clean) h)

pub read_only_law : ReadOnlyLaw
read_only_law header authority instructions work footprint entries key clean h =
    written_law header authority instructions work entries key (unwritten footprint key (world_of (whole header authority instructions work entries)).trace clean h)
