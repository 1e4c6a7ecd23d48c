use Rattle.std.proofs.Common.{ap}
use Rattle.ledger_types.specs.Entry.{key_of}
use Rattle.call_spec.specs.Errors.{EXISTS}
use Rattle.call_spec.specs.Keys.{instance_key}
use Rattle.call_spec.specs.Creating.{makes_instance}
use Rattle.call_parts.proofs.Making.{make_paid, make_there, make_refused, instance_makes}
use Rattle.call_parts.proofs.instances.make_instance.Goals as goal

pub returns-in-Ok-true-clause-does : goal.returns-in-Ok-true-clause-does
returns-in-Ok-true-clause-does g c =
    make_paid (λ env. makes_instance env c.args.contract c.args.code) EXISTS c.instance_entry-entry.result c.first_life-life.result c.in-Ok-true.field-0 c.pay.result (instance_key c.args.contract) c.size_of-size.result c.args.storage.now c.make.new.self c.args.budget.now c.pay.new.budget
    (instance_makes c.args.contract c.args.code c.instance_entry-entry.result c.first_life-life.result c.args.n c.args.settings.now c.args.storage.now c.instance_entry-entry.ensures.entry c.first_life-life.ensures c.requires.number c.requires.settings)
    (ap key_of c.instance_entry-entry.ensures.entry) c.size_of-size.ensures c.instance_entry-entry.ensures.fits c.in-Ok-true.field-0-test c.in-Ok-true.ensures c.pay.ensures.does c.pay.ensures.spent

pub returns-in-Ok-false-clause-does : goal.returns-in-Ok-false-clause-does
returns-in-Ok-false-clause-does g c =
    make_there (λ env. makes_instance env c.args.contract c.args.code) EXISTS c.instance_entry-entry.result c.first_life-life.result c.in-Ok-false.field-0 (instance_key c.args.contract) c.args.storage.now c.make.new.self c.args.budget.now
    (instance_makes c.args.contract c.args.code c.instance_entry-entry.result c.first_life-life.result c.args.n c.args.settings.now c.args.storage.now c.instance_entry-entry.ensures.entry c.first_life-life.ensures c.requires.number c.requires.settings)
    (ap key_of c.instance_entry-entry.ensures.entry) c.instance_entry-entry.ensures.fits c.in-Ok-false.field-0-test c.in-Ok-false.ensures

pub returns-clause-does : goal.returns-clause-does
returns-clause-does g c =
    make_refused (λ env. makes_instance env c.args.contract c.args.code) EXISTS c.instance_entry-entry.result c.first_life-life.result c.in-Err.error c.end_of.result (instance_key c.args.contract) c.instance_key-key.result c.args.storage.now c.make.new.self c.args.budget.now
    (instance_makes c.args.contract c.args.code c.instance_entry-entry.result c.first_life-life.result c.args.n c.args.settings.now c.args.storage.now c.instance_entry-entry.ensures.entry c.first_life-life.ensures c.requires.number c.requires.settings)
    (ap key_of c.instance_entry-entry.ensures.entry) c.instance_key-key.ensures.key c.end_of.ensures c.instance_entry-entry.ensures.fits c.in-Err.ensures
