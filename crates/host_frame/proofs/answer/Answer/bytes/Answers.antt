use Rattle.host_frame.proofs.Making.{bytes_made}
use Rattle.host_frame.proofs.answer.Answer.bytes.Goals as goal

pub returns-clause-made : goal.returns-clause-made
returns-clause-made c =
    rw (c.from_vec.ensures, ← c.deref.ensures.value) (bytes_made c.deref.result.now c.hold_bytes.ensures (rw c.deref.ensures.value c.requires))
