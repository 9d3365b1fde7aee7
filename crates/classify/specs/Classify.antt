-- What is done with each reading (02, 3; `classify_record` of engine.rs): the words that hold the reading not yet dealt with and the close, what the
-- reading calls note there, and the order of the tests. Assumes nothing.
use Rattle.std.specs.Prelude.{Bool, true, false, List, ℕ, ◌-◌, leb, ltb, eqb, length, get_or, set, replicate}
use Rattle.base.specs.Choose.{choose, both, either}
use Rattle.base.specs.Parts.{part}
use Rattle.datagram.specs.Datagram.{moved}
use Rattle.datagram.specs.declared.Datagram.{Datagram}
use Rattle.datagram.specs.declared.Question.TheVariants as question
use Rattle.datagram.specs.declared.Question.{Question}
use Rattle.datagram.specs.declared.Reading.TheVariants as says
use Rattle.datagram.specs.declared.Reading.{Reading}
use Rattle.receiving.specs.Receiving.{sound}
use Rattle.receiving.specs.declared.Receiving.{Receiving}
use Rattle.classify.specs.declared.Class.{Class}
use Rattle.classify.specs.declared.Class.TheVariants as class

-- ---- which word is which

abbrev pub words : ℕ
words = 9

-- the reading that waits to be dealt with, 0 where none does: its kind, type, epoch or epoch bits, number, and where its content is
abbrev pub kind_at : ℕ
kind_at = 0

abbrev pub type_at : ℕ
type_at = 1

abbrev pub epoch-at : ℕ
epoch-at = 2

abbrev pub number_at : ℕ
number_at = 3

abbrev pub start-at : ℕ
start-at = 4

abbrev pub length_at : ℕ
length_at = 5

-- whether a close is remembered, and its place
abbrev pub closed_at : ℕ
closed_at = 6

abbrev pub close-epoch-at : ℕ
close-epoch-at = 7

abbrev pub close-number-at : ℕ
close-number-at = 8

abbrev pub kind_of : List ℕ → ℕ
kind_of w = get_or w kind_at 0

abbrev pub type_of : List ℕ → ℕ
type_of w = get_or w type_at 0

abbrev pub epoch_of : List ℕ → ℕ
epoch_of w = get_or w epoch-at 0

abbrev pub number_of : List ℕ → ℕ
number_of w = get_or w number_at 0

abbrev pub start_of : List ℕ → ℕ
start_of w = get_or w start-at 0

abbrev pub length_of : List ℕ → ℕ
length_of w = get_or w length_at 0

abbrev pub closed_of : List ℕ → ℕ
closed_of w = get_or w closed_at 0

abbrev pub close_epoch_of : List ℕ → ℕ
close_epoch_of w = get_or w close-epoch-at 0

abbrev pub close_number_of : List ℕ → ℕ
close_number_of w = get_or w close-number-at 0

-- the kinds of a reading, as the calls that read tell them
abbrev pub plaintext-kind : ℕ
plaintext-kind = 3

abbrev pub unopened-kind : ℕ
unopened-kind = 4

abbrev pub opened-kind : ℕ
opened-kind = 5

-- content types (RFC 9147, section 4) and alert descriptions (RFC 8446, section 6)
abbrev pub change-cipher-spec : ℕ
change-cipher-spec = 20

abbrev pub alert : ℕ
alert = 21

abbrev pub handshake : ℕ
handshake = 22

abbrev pub application-data : ℕ
application-data = 23

abbrev pub ack : ℕ
ack = 26

abbrev pub close-notify : ℕ
close-notify = 0

abbrev pub user-canceled : ℕ
user-canceled = 90

-- ---- ranges: outside them a call answers 12

-- the content of the reading that waits lies within n bytes
unfoldable pub is_inside : ℕ → List ℕ → Bool
is_inside n w = both (leb (start_of w) n) (leb (length_of w) (n - start_of w))

-- of a kind that there is and within the n bytes of the datagram, or none waits; and a flag
unfoldable pub is_sound : ℕ → List ℕ → Bool
is_sound n w =
    both (either (eqb (kind_of w) 0) (both (both (leb plaintext-kind (kind_of w)) (leb (kind_of w) opened-kind)) (is_inside n w)))
    (leb (closed_of w) 1)

-- ---- what the calls that read note

abbrev pub fresh : List ℕ
fresh = replicate words 0

-- no reading waits; the close stays
abbrev pub cleared : List ℕ → List ℕ
cleared w = set w kind_at 0

abbrev pub waiting : ℕ → ℕ → ℕ → ℕ → ℕ → ℕ → List ℕ → List ℕ
waiting kind t e n s l w = set (set (set (set (set (set w kind_at kind) type_at t) epoch-at e) number_at n) start-at s) length_at l

-- a reading waits; one that was not dealt with is left behind; 12 and 15 change nothing
abbrev pub noted : Reading → List ℕ → List ℕ
noted (says.Plaintext t n s l) w = waiting plaintext-kind t 0 n s l w
noted (says.Unopened b n s l) w = waiting unopened-kind 0 b n s l w
noted (says.Opened e n t s l) w = waiting opened-kind t e n s l w
noted says.Setting w = w
noted says.Reply w = w
noted says.End w = cleared w
noted says.Incomplete w = cleared w
noted says.TooMany w = cleared w
noted (says.Dropped r) w = cleared w
noted (says.Mask e s) w = cleared w
noted (says.Opening e n s h l) w = cleared w

-- ---- the tests, in their order

-- epoch, then number: the second place is beyond the first
unfoldable pub is_after : ℕ → ℕ → ℕ → ℕ → Bool
is_after e n f m = choose (eqb e f) (ltb n m) (ltb e f)

-- "drops records beyond it"; plaintext is epoch 0, an unopened record's place its epoch bits and its number bytes as they lie
unfoldable pub is_beyond : List ℕ → Bool
is_beyond w = both (eqb (closed_of w) 1) (is_after (close_epoch_of w) (close_number_of w) (epoch_of w) (number_of w))

-- "plaintext ACK, alert and handshake records"
unfoldable pub is_guarded : ℕ → Bool
is_guarded t = either (eqb t alert) (either (eqb t handshake) (eqb t ack))

-- "the first alert 0 remembers its place"; "alert 90 and alerts under two bytes are ignored"; "another description is told"
unfoldable pub alert_as : Bool → List ℕ → Class
alert_as closed c =
    choose (ltb (length c) 2) class.Ignored
    (choose (eqb (get_or c 1 0) close-notify) (choose closed class.Ignored class.Close)
    (choose (eqb (get_or c 1 0) user-canceled) class.Ignored (class.Alert (get_or c 1 0))))

-- "A plaintext ACK never marks anything"
unfoldable pub by_type : Bool → Bool → ℕ → List ℕ → Class
by_type plain closed t c =
    choose (eqb t ack) (choose plain class.Ignored class.Ack)
    (choose (eqb t alert) (alert_as closed c)
    (choose (eqb t handshake) class.Handshake
    (choose (eqb t application-data) class.ApplicationData
    (choose (eqb t change-cipher-spec) class.Ignored class.Other))))

-- the reading that waits, with content c, peer encryption on or off
unfoldable pub class_of : List ℕ → Bool → List ℕ → Class
class_of w encrypted c =
    choose (is_beyond w) class.Beyond
    (choose (both (eqb (kind_of w) plaintext-kind) (both encrypted (is_guarded (type_of w)))) class.Unprotected
    (choose (eqb (kind_of w) unopened-kind) class.Unopened
    (by_type (eqb (kind_of w) plaintext-kind) (eqb (closed_of w) 1) (type_of w) c)))

-- the content of the reading that waits
abbrev pub content_of : List ℕ → List ℕ → List ℕ
content_of w d = part (start_of w) (length_of w) d

-- 12; 15 for another length than the datagram begun; none waits
unfoldable pub classified : List ℕ → Receiving → List ℕ → Class
classified w s d =
    choose (both (sound s) (is_sound s.datagram.size w))
    (choose (eqb (length d) s.datagram.size)
    (choose (eqb (kind_of w) 0) class.Nothing (class_of w s.keys.peer_encryption (content_of w d)))
    class.Reply)
    class.Setting

-- ---- what is left behind

-- "Each reading is dealt with once"
abbrev pub closing : List ℕ → List ℕ
closing w = cleared (set (set (set w closed_at 1) close-epoch-at (epoch_of w)) close-number-at (number_of w))

abbrev pub words_after : Class → List ℕ → List ℕ
words_after class.Setting w = w
words_after class.Reply w = w
words_after class.Nothing w = w
words_after class.Beyond w = cleared w
words_after class.Unprotected w = cleared w
words_after class.Ignored w = cleared w
words_after class.Ack w = cleared w
words_after class.Close w = closing w
words_after (class.Alert x) w = cleared w
words_after class.Handshake w = cleared w
words_after class.ApplicationData w = cleared w
words_after class.Other w = cleared w
words_after class.Unopened w = cleared w

-- "ends the datagram": later reads find its end. A question that waits stays
abbrev pub left_at : Question → Datagram → Datagram
left_at question.Nothing b = moved b b.size b.readings
left_at (question.Mask a) b = b
left_at (question.Opening a n) b = b

abbrev pub finished : Receiving → Receiving
finished s = record { keys = s.keys; datagram = left_at s.datagram.question s.datagram }

abbrev pub tells_alert : Class → Bool
tells_alert (class.Alert x) = true
tells_alert class.Setting = false
tells_alert class.Reply = false
tells_alert class.Nothing = false
tells_alert class.Beyond = false
tells_alert class.Unprotected = false
tells_alert class.Ignored = false
tells_alert class.Ack = false
tells_alert class.Close = false
tells_alert class.Handshake = false
tells_alert class.ApplicationData = false
tells_alert class.Other = false
tells_alert class.Unopened = false

abbrev pub acts_on : Class → Bool
acts_on class.Ack = true
acts_on (class.Alert x) = false
acts_on class.Setting = false
acts_on class.Reply = false
acts_on class.Nothing = false
acts_on class.Beyond = false
acts_on class.Unprotected = false
acts_on class.Ignored = false
acts_on class.Close = false
acts_on class.Handshake = false
acts_on class.ApplicationData = false
acts_on class.Other = false
acts_on class.Unopened = false

abbrev pub state_after : Class → Receiving → Receiving
state_after k s = choose (tells_alert k) (finished s) s
