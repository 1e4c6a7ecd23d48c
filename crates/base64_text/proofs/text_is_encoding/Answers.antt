use Rattle.base64_text.proofs.Encodings.{only_encodings}
use Rattle.base64_text.proofs.text_is_encoding.Goals as goal

pub returns : goal.returns
returns c = only_encodings
