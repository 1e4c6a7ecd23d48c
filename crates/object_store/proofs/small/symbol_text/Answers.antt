use Rattle.object_store.proofs.SmallForms.{symbol_means, symbol_exists}
use Rattle.object_store.proofs.small.symbol_text.Goals as goal

pub returns-clause-means : goal.returns-clause-means
returns-clause-means c = symbol_means c.args.val.0 c.symbol_text.result c.symbol_text.new.buffer c.requires c.symbol_text.ensures

pub returns-clause-exists : goal.returns-clause-exists
returns-clause-exists c = symbol_exists c.args.val.0 c.symbol_text.result c.symbol_text.new.buffer c.requires c.symbol_text.ensures
