use Rattle.tagged_val.proofs.symbols.+text_into.Given as goal

abbrev pub decreases-text_into : goal.decreases-text_into
decreases-text_into l = l.left
