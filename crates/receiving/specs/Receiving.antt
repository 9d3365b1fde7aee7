-- The calls of the receive side (01, "Readings of an arriving datagram", refusals 1 to 13, 15 and 23).
use Rattle.std.specs.Prelude.{ℕ, ltb, leb, Bool, List, Some, None, Result, Ok, Err}
use Rattle.base.specs.Choose.{choose}
use Rattle.datagram.specs.Datagram.{is_sound, begun}
use Rattle.datagram.specs.declared.Datagram.{Datagram}
use Rattle.datagram.specs.declared.Step.{Step}
use Rattle.mask_reply.specs.Mask.{mask_step}
use Rattle.opening_reply.specs.Opening.{opened_step, cancelled, Opening}
use Rattle.opening_reply.specs.declared.Cancelled.{Cancelled}
use Rattle.opening_reply.specs.declared.Marked.{Marked}
use Rattle.records.specs.Records.{read_step}
use Rattle.recv_keys.specs.Keys.{find, fresh, encrypted, released, is_full, installed, left, Found}
use Rattle.recv_keys.specs.declared.RecvKeys.{RecvKeys}
use Rattle.receiving.specs.declared.Done.{Done}
use Rattle.receiving.specs.declared.Done.TheVariants as done
use Rattle.receiving.specs.declared.Refusal.{Refusal}
use Rattle.receiving.specs.declared.Refusal.TheVariants as refusal
use Rattle.receiving.specs.declared.Kept.{Kept}
use Rattle.receiving.specs.declared.Read.{Read}
use Rattle.receiving.specs.declared.Receiving.{Receiving}

-- 01's number of each refusal
abbrev pub refusal_number : Refusal → ℕ
refusal_number refusal.Setting = 12
refusal_number refusal.TooLong = 1
refusal_number refusal.Unusable = 13
refusal_number refusal.Full = 23

-- what a call that reads nothing answers
abbrev pub Answer : Type 0
Answer = Result Done Refusal

-- 01's number of each answer; 0 where it is done. A record dropped with its epoch is 6
abbrev pub answer_number : Answer → ℕ
answer_number (Ok done.Asked) = 0
answer_number (Ok done.Dropped) = 6
answer_number (Err r) = refusal_number r

-- the state in range; else every call answers 12
abbrev pub sound : Receiving → Bool
sound s = is_sound s.keys s.datagram

abbrev pub kept : Receiving → Answer → Kept
kept s a = record { answer = a; state = s }

abbrev pub made : Answer → RecvKeys → Datagram → Kept
made a k b = record { answer = a; state = record { keys = k; datagram = b } }

-- ---- the start: nothing keyed, begun or asked; 12 for a setting above 17

unfoldable pub fresh_of : ℕ → Kept
fresh_of min = choose (ltb 17 min) (made (Err refusal.Setting) (fresh min) (begun 0)) (made (Ok done.Asked) (fresh min) (begun 0))

-- ---- keying: 12, 13 for 0, 1 or one not above every earlier one, 23

unfoldable pub key_of : Receiving → ℕ → List ℕ → Kept
key_of s epoch iv =
    choose (sound s)
    (choose (ltb epoch 2) (kept s (Err refusal.Unusable))
    (choose (leb epoch s.keys.highest) (kept s (Err refusal.Unusable))
    (choose (is_full s.keys epoch) (kept s (Err refusal.Full))
    (made (Ok done.Asked) (installed s.keys epoch iv) s.datagram))))
    (kept s (Err refusal.Setting))

-- ---- removing: 12, 13 for one not keyed

unfoldable pub leaving : Cancelled → RecvKeys → Kept
leaving c k = choose c.dropped (made (Ok done.Dropped) k c.datagram) (made (Ok done.Asked) k c.datagram)

unfoldable pub removed_by : Found → Receiving → ℕ → Kept
removed_by None s epoch = kept s (Err refusal.Unusable)
removed_by (Some i) s epoch = leaving (cancelled s.datagram.question s.datagram epoch) (left s.keys i)

unfoldable pub remove_of : Receiving → ℕ → Kept
remove_of s epoch = choose (sound s) (removed_by (find s.keys.entries epoch s.keys.count) s epoch) (kept s (Err refusal.Setting))

-- ---- peer encryption and release, neither of which is undone

unfoldable pub encrypt_of : Receiving → Kept
encrypt_of s = choose (sound s) (made (Ok done.Asked) (encrypted s.keys) s.datagram) (kept s (Err refusal.Setting))

unfoldable pub release_of : Receiving → Kept
release_of s = choose (sound s) (made (Ok done.Asked) (released s.keys) s.datagram) (kept s (Err refusal.Setting))

-- ---- a datagram of n bytes: 12, 1

unfoldable pub begin_of : Receiving → ℕ → Kept
begin_of s n =
    choose (sound s) (choose (ltb 16384 n) (kept s (Err refusal.TooLong)) (made (Ok done.Asked) s.keys (begun n))) (kept s (Err refusal.Setting))

-- ---- reading and the replies

abbrev pub stepped : RecvKeys → Step → Read
stepped k t = record { reading = t.reading; nonce = t.nonce; state = record { keys = k; datagram = t.datagram } }

abbrev pub read_of : Receiving → List ℕ → Read
read_of s d = stepped s.keys (read_step s.keys s.datagram d)

abbrev pub mask_of : Receiving → List ℕ → List ℕ → Read × List ℕ
mask_of s m d = (stepped s.keys (mask_step s.keys s.datagram m d).0, (mask_step s.keys s.datagram m d).1)

abbrev pub marked_read : Marked → Read
marked_read m = stepped m.keys m.step

abbrev pub opened_of : Receiving → Opening → List ℕ → Read
opened_of s o d = marked_read (opened_step s.keys s.datagram o d)
