-- `replies::unmask` meets its contract: bytes stored one by one are the mask's bytes written over the number's. Assumes nothing.
use Rattle.mask_reply.proofs.Leads.{one-stored, two-stored}
use Rattle.mask_reply.proofs.unmask.Goals as goal

pub returns-then-s_flag : goal.returns-then-s_flag
returns-then-s_flag c = rw c.if-s_flag.true (two-stored _ _ _ c.requires.0)

pub returns : goal.returns
returns c = rw c.if-s_flag.false (one-stored _ _ _ c.requires.0)
