-- The sending side's state: fresh values, what may be sent, keying (01, "Datagrams to send" and refusals 12, 13, 14, 23). Assumes nothing.
use Rattle.std.specs.Prelude.{Bool, true, false, List, ◌≡◌, ℕ, ◌≤◌, leb, eqb, replicate, Ok, Err}
use Rattle.std.proofs.Common.{leb-true}
use Rattle.queue.specs.declared.Queue.{Queue}
use Rattle.base.specs.Choose.{choose, both, either, both_left, both_right}
use Rattle.record.specs.Record.{is_type}
use Rattle.queue.specs.Queue.{is_setting, is_sound}
use Rattle.queue.specs.Laid.{record_len}
use Rattle.send_keys.specs.declared.SendKeys.{SendKeys}
use Rattle.send_keys.specs.Answer.{is_done}
use Rattle.send_keys.specs.Keys.{no_keys, key_answer, keyed}
use Rattle.outgoing.specs.declared.Waiting.{Waiting}
use Rattle.outgoing.specs.declared.Sending.{Sending}
use Rattle.send_keys.specs.declared.SendError.TheVariants.{OutOfRange}
use Rattle.outgoing.specs.declared.Sent.{Sent}

unfoldable pub no_waiting : Waiting
no_waiting = record { any = false; slot = 0; start = 0; length = 0; epoch = 0; number = 0 }

-- "Both start fresh: settings in range, none of the five done, nothing queued"
unfoldable pub fresh_sending : ℕ → ℕ → Sending
fresh_sending mtu limit = record {
  queue = record { mtu = mtu; limit = limit; first = 0; count = 0; closed = false; lengths = replicate 16 0 };
  waiting = no_waiting;
  keys = no_keys;
  message_seq = 0;
}

-- 12 for settings outside their range; the state then has them as given, so that every later call is 12 again
unfoldable pub started : ℕ → ℕ → Sent
started mtu limit = record { answer = choose (is_setting mtu limit) (Ok tt) (Err OutOfRange); state = fresh_sending mtu limit }

-- "Content types sent: 21, 22, 23, 26; in plaintext 21, 22, 26"
unfoldable pub is_content_type : ℕ → ℕ → Bool
is_content_type e t = either (is_type t) (choose (eqb e 0) false (eqb t 23))

-- 14: "type not allowed, body over 16,384, or record over the MTU"
unfoldable pub is_allowed : ℕ → ℕ → ℕ → ℕ → Bool
is_allowed mtu e t n = both (is_content_type e t) (both (leb n 16384) (leb (record_len e n) mtu))

pub allowed-short : (mtu e t n : ℕ) → is_allowed mtu e t n ≡ true → n ≤ 16384
unfolding is_allowed
allowed-short mtu e t n h = leb-true n 16384 (both_left (leb n 16384) _ (both_right (is_content_type e t) _ h))

-- a state with a part put anew
abbrev pub with_queue : Sending → Queue → Sending
with_queue s q = record { queue = q; waiting = s.waiting; keys = s.keys; message_seq = s.message_seq }

abbrev pub with_waiting : Sending → Waiting → Sending
with_waiting s x = record { queue = s.queue; waiting = x; keys = s.keys; message_seq = s.message_seq }

abbrev pub numbered : Sending → ℕ → Sending
numbered s n = record { queue = s.queue; waiting = s.waiting; keys = s.keys; message_seq = n }

abbrev pub with_keys : Sending → SendKeys → Sending
with_keys s k = record { queue = s.queue; waiting = s.waiting; keys = k; message_seq = s.message_seq }

-- keying: 12, 13, 23; a refused one changes nothing
unfoldable pub keying_state : Sending → ℕ → List ℕ → Sent
keying_state s e iv = record {
  answer = key_answer s.keys (is_sound s.queue) e;
  state = choose (is_done (key_answer s.keys (is_sound s.queue) e)) (with_keys s (keyed s.keys e iv)) s;
}
