-- How many records wait to be sealed. Assumes nothing.
use Rattle.std.specs.Prelude.{ℕ, ◌+◌, ◌-◌}
use Rattle.outgoing.specs.declared.Sending.{Sending}

-- how many records wait: in epoch 2 and in the application epoch, those from the first number not sealed yet up to the next to be used
unfoldable pub to_seal : Sending → ℕ
to_seal s = (s.keys.handshake.next - s.keys.handshake.sealed) + (s.keys.application.next - s.keys.application.sealed)
