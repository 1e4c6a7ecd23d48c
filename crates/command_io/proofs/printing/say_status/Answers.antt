use Rattle.command_io.proofs.printing.say_status.Goals as goal

pub returns-in-NotBase64-clause-said : goal.returns-in-NotBase64-clause-said
returns-in-NotBase64-clause-said g c = rw c.in-NotBase64.is (rw (c.as_bytes-in-NotBase64.ensures.value, c.as_str-in-NotBase64.ensures) at c.say_parts-in-NotBase64.ensures.said)

pub returns-in-NotAModule-clause-said : goal.returns-in-NotAModule-clause-said
returns-in-NotAModule-clause-said g c = rw c.in-NotAModule.is c.say_part-in-NotAModule.ensures.said

pub returns-in-Incomplete-clause-said : goal.returns-in-Incomplete-clause-said
returns-in-Incomplete-clause-said g c = rw c.in-Incomplete.is (rw (c.as_bytes-in-Incomplete.ensures.value, c.format-stage.ensures.text) at c.say_parts-in-Incomplete.ensures.said)
