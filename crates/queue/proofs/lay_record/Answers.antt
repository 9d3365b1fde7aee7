-- `queue::lay_record` meets its contract. Assumes nothing.
use lib.ListN.{length}
use native.Mathlib.Omega.{arith}
use Rattle.queue.specs.Laid.{len_plaintext, len_ciphertext, bytes-plaintext, bytes_ciphertext}
use Rattle.queue.proofs.lay_record.Goals as goal

pub lay_plaintext-requires : goal.lay_plaintext-requires
lay_plaintext-requires c = let h = len_plaintext c.if-epoch-eq0.true (length c.args.content.now) in (omega arith, c.requires.1, c.requires.2)

pub returns-then-epoch-eq0 : goal.returns-then-epoch-eq0
returns-then-epoch-eq0 c = let a = c.args in rw (bytes-plaintext c.if-epoch-eq0.true a.content_type a.number a.content.now) c.lay_plaintext.ensures

pub lay_ciphertext-requires : goal.lay_ciphertext-requires
lay_ciphertext-requires c = let h = len_ciphertext c.if-epoch-eq0.false (length c.args.content.now) in (omega arith, c.requires.1, c.requires.2)

pub returns : goal.returns
returns c = let a = c.args in rw (bytes_ciphertext c.if-epoch-eq0.false a.content_type a.number a.content.now) c.lay_ciphertext.ensures
