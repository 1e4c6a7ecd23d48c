use Rattle.std.proofs.Common.{◌≡◌, ◌≤◌, List, map, length, sym, ap, ap₂, ◌∙◌, vec_capacity, rules, arith}
use Rattle.auth_types.specs.declared.auth_entry.AuthEntry.{AuthEntry}
use Rattle.auth_trees.specs.declared.records.Record.{Record}
use Rattle.auth_spec.specs.Pairs.{Pair}
use Rattle.auth_trees.specs.Flat.{authoriser}
use Rattle.auth_trees.specs.Kept.{pairs_of}
use Rattle.auth_trees.proofs.Keeping.{kept_none, no_pairs}
use Rattle.auth_trees.proofs.marks.Marks.prepare.Goals as goal

pub invariant_of-result : goal.invariant_of-result
invariant_of-result c =
    let t = c.in_ok-tables.tables in
    let same : t.entries.now ≡ c.args.entries.now = c.in_ok-tables.ensures.entries in
    let long : c.len.result ≡ length t.nodes.items = search rules in
    let room : length t.nodes.items ≤ vec_capacity c.in_ok-records.records = omega (arith, long, c.in_ok-records.ensures.capacity) in
    kept_none t c.args.source c.in_ok-records.records.items _ c.in_ok-tables.ensures.ready c.in_ok-tables.ensures.unmarked (c.in_ok-tables.ensures.addresses ∙ ap (map (authoriser c.args.source)) (sym same)) c.in_ok-records.ensures.items room

pub returns : goal.returns
returns c =
    ap₂ (λ (es : List AuthEntry) (rs : List Record). record { entries = es; source = c.args.source; pairs = pairs_of es rs }) c.in_ok-tables.ensures.entries c.in_ok-records.ensures.items
    ∙ ap (λ (ps : List Pair). record { entries = c.args.entries.now; source = c.args.source; pairs = ps }) (no_pairs c.args.entries.now)
