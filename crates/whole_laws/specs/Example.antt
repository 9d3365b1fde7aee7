-- Answers to one message of 1,000 bytes under an MTU of 576, each by computing the definitions: its two pieces fit in two datagrams and not
-- in one, and in a flight with ten records and not with eleven. Assumes nothing.
use Rattle.std.specs.Prelude.{[], ◌∷◌, ◌≡◌, refl, ℕ, replicate, Ok, Err}
use Rattle.base.specs.Choose.{choose, both, either}
use Rattle.queue.specs.Queue.{is_setting, is_sound, is_ready, slot_of, last_len, tail_of, place_of, grown}
use Rattle.queue.specs.Laid.{record_len}
use Rattle.send_keys.specs.Keys.{no_epoch, no_keys, is_keyed, next_of, keyed}
use Rattle.outgoing.specs.declared.Sending.{Sending}
use Rattle.send_keys.specs.declared.SendError.TheVariants.{FlightFull, QueueFull, KeysAbsent}
use Rattle.outgoing.specs.State.{no_waiting, fresh_sending, with_keys}
use Rattle.flight.specs.declared.Flight.{Flight}
use Rattle.flight.specs.Flight.{fresh_flight, is_kept, with_saved}
use Rattle.messages.specs.Cut.{epoch_of, overhead, piece_size, cut_next, pieces, plan_reach}
use Rattle.messages.specs.Message.{first_cut, message_answer}

-- epoch 2 keyed, nothing queued
abbrev sender : ℕ → Sending
sender limit = with_keys (fresh_sending 576 limit) (keyed no_keys 2 (replicate 12 7))

-- so many records saved
abbrev flight : ℕ → Flight
flight n = with_saved fresh_flight fresh_flight.entries n

pub answers : (message_answer (sender 2) (flight 10) 1152 6912 20 1000 ≡ Ok tt) × (message_answer (sender 1) (flight 10) 576 6912 20 1000 ≡ Err QueueFull)
    × (message_answer (sender 2) (flight 11) 1152 6912 20 1000 ≡ Err FlightFull) × (message_answer (fresh_sending 576 2) (flight 10) 1152 6912 20 1000 ≡ Err KeysAbsent)
    × (pieces 13 576 (overhead (epoch_of 20)) (first_cut (sender 2) 1000) ≡ 542 ∷ 458 ∷ [])
unfolding message_answer is_ready is_sound is_setting is_kept is_keyed next_of keyed no_keys no_epoch no_waiting fresh_sending fresh_flight choose both either slot_of last_len tail_of place_of grown record_len epoch_of piece_size cut_next pieces plan_reach
answers = (refl, refl, refl, refl, refl)
