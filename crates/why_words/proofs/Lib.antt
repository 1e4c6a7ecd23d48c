mod OneKind
mod Parsing
