use Rattle.std.proofs.Common.{◌≡◌, ◌-◌, ◌&&◌, nat_lt, nat_le, true, false, rules, arith}
use Rattle.ledger_spec.specs.LedgerMap.{key_bytes}
use Rattle.entry_lookup.specs.Found.{kept_of}
use Rattle.contract_storage.specs.Acts.{extends}
use Rattle.contract_storage.specs.Slotted.{stored_of}
use Rattle.contract_storage.proofs.Doing.{does_settled, ext_longer, ext_stays, found_there, kept_longer}
use Rattle.contract_storage.proofs.entries.Entries.extend_allowed.Goals as goal

pub returns-then-not-is_longer-clause-performs : goal.returns-then-not-is_longer-clause-performs
returns-then-not-is_longer-clause-performs g c =
    let s = stored_of c.args.self.now in
    let no : (nat_lt c.in-Live.found.live_until c.in-Some.life && nat_le (c.in-Live.found.live_until - s.n) c.args.threshold) ≡ false = search rules in
    ext_stays s c.args.spot.key.now c.args.threshold c.args.extend_to c.in-Some.life (kept_of c.in-Live.found) c.requires.unless_backward c.in-Live.ensures.seen c.in-Some.ensures no

pub living_until-requires-clause-there : goal.living_until-requires-clause-there
living_until-requires-clause-there g c = found_there (stored_of c.args.self.now) c.args.spot.key.now (kept_of c.in-Live.found) c.in-Live.ensures.seen

pub settle-requires-clause-kept : goal.settle-requires-clause-kept
settle-requires-clause-kept g c =
    kept_longer (key_bytes c.args.spot.key.now) (kept_of c.in-Live.found) _ c.in-Some.life c.in-Live.ensures.kept c.in-Ok.ensures (omega arith)

pub returns-clause-performs : goal.returns-clause-performs
returns-clause-performs g c =
    let s = stored_of c.args.self.now in
    let yes : (nat_lt c.in-Live.found.live_until c.in-Some.life && nat_le (c.in-Live.found.live_until - s.n) c.args.threshold) ≡ true = search rules in
    does_settled (extends c.args.spot.key.now c.args.threshold c.args.extend_to) c.settle.result s (stored_of c.settle.new.self) _
    (ext_longer s c.args.spot.key.now c.args.threshold c.args.extend_to c.in-Some.life (kept_of c.in-Live.found) c.requires.unless_backward c.in-Live.ensures.seen c.in-Some.ensures yes)
    (rw (← c.in-Ok.ensures) c.settle.ensures.ok) c.settle.ensures.err c.settle.ensures.stays
