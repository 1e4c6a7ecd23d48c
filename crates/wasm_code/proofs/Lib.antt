mod CodeLaws
mod EmitLaws
mod OpLaws
