-- `messages::write_content` meets its contract: the header, and behind it the piece. Assumes nothing.
use Rattle.std.specs.Prelude.{◌≡◌, ℕ, ◌+◌, ◌-◌, length, take, drop}
use Rattle.std.proofs.Common.{ap, ◌∙◌, arith}
use Rattle.base.specs.Parts.{part, length_part}
use Rattle.handshake.specs.Header.{header_bytes, length-header}
use Rattle.handshake.specs.declared.Header.{Header}
use Rattle.messages.specs.Message.{content_of}
use Rattle.queue.proofs.Writing.{front_rest}
use Rattle.messages.proofs.write_content.Goals as goal

pub returns : goal.returns
unfolding content_of
returns c = let a = c.args in
    let b = a.body.now in
    let h : Header = record { msg_type = a.kind; length = length b; message_seq = a.seq; fragment_offset = a.at; fragment_length = a.size } in
    let z : a.at + a.size - a.at ≡ a.size = omega arith in
    let n = length_part a.at a.size b c.requires.1 in
    rw (c.copy_from_slice.ensures.after ∙ c.serialize.ensures, c.copy_from_slice-2.ensures.after ∙ ap (λ (k : ℕ). take k (drop a.at b)) z)
    (front_rest 12 (header_bytes h) (part a.at a.size b) a.d.now (length-header h) (omega (arith, n, c.requires.0)))
