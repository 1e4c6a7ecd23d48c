use Rattle.host_frame.proofs.Decoding.{entered_hosted}
use Rattle.host_frame.proofs.laws.entered_is_hosted.Goals as goal

pub returns : goal.returns
returns c = entered_hosted
