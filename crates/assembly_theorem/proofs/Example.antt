-- Worked records, computed: by the account alone, each edge of 02, 2 and 7 as the last that is done and the first that is refused; then a list of calls whose
-- premises are met, and its messages. Assumes nothing.
use Rattle.std.specs.Prelude.{true, List, [], ◌∷◌, ◌++◌, ◌≡◌, refl, ℕ, zero, suc, leb, length, get_or, replicate}
use Rattle.std.proofs.lemmas.Bool.{false≢true}
use Rattle.std.proofs.Common.{arith, ltb-true}
use Rattle.base.specs.Choose as base-choose
use Rattle.base.specs.Every as base-every
use Rattle.base.specs.Parts as base-parts
use Rattle.base.specs.Choose.{both_right}
use Rattle.handshake.specs.Header as header
use Rattle.history_theorem.proofs.Lists.{either-cases}
use Rattle.assembly.specs.Spans as spans
use Rattle.assembly.specs.Assembly as assembly
use Rattle.assembly_theorem.specs.Account as account
use Rattle.assembly_theorem.specs.Account.{Fragment, covers, byte_of, Account, new_account, Verdict, begun, turned, ended, over, other, same, held, whole, owed, begins, after}
use Rattle.assembly_theorem.specs.Claim.{PieceCall, begin·, take·, Told, Piecing, new_piecing, verdict_of, does, Assembled, ran, AllFair}
use Rattle.assembly_theorem.proofs.Theorem.{every-run}
use Rattle.assembly_theorem.proofs.Rules.{lends_again}

-- every definition that an account or a list computes with
opened : Unit {0}
unfolding base-choose.choose base-choose.both base-choose.either base-every.every base-every.same_to base-parts.splice account.fragment_in account.has account.is_same account.is_shared account.covers account.covers_all account.byte_of account.oldest account.is_among account.shares_all account.is_fit account.is_agreed account.taken_as account.judged account.read_as account.owed header.header_at header.parse_header spans.within spans.covered spans.all_covered spans.is_whole spans.is_same spans.is_shared spans.all_shared assembly.is_sound assembly.held assembly.piece_at assembly.is_fit assembly.is_alike assembly.is_agreed assembly.finished assembly.offered assembly.read_at assembly.taken
opened = tt

-- ---- a record's pieces taken in turn, over a buffer of 16,384 bytes

abbrev answers : ℕ → Account → List ℕ → List Verdict
answers zero a c = []
answers (suc k) a c = owed a c 16384 ∷ answers k (after a c 16384) c

abbrev goes : ℕ → Account → List ℕ → Account
goes zero a c = a
goes (suc k) a c = goes k (after a c 16384) c

-- a record with content c is begun: the answers of k calls, and the account behind them
abbrev told : ℕ → Account → List ℕ → List Verdict
told k a c = answers k (begins a (length c)) c

abbrev behind : ℕ → Account → List ℕ → Account
behind k a c = goes k (begins a (length c)) c

-- a piece: type, total, message number, offset, body, each below 256; larger ones are written out below
abbrev piece : ℕ → ℕ → ℕ → ℕ → List ℕ → List ℕ
piece kind total number offset body =
    kind ∷ 0 ∷ 0 ∷ total ∷ 0 ∷ number ∷ 0 ∷ 0 ∷ offset ∷ 0 ∷ 0 ∷ length body ∷ body

-- ---- message 0, of type 11 and 4 bytes

-- its last three bytes; the same again; its first two, of which the last three have one
abbrev back : List ℕ
back = piece 11 4 0 1 (20 ∷ 30 ∷ 40 ∷ [])

abbrev again : List ℕ
again = piece 11 4 0 1 (20 ∷ 30 ∷ 40 ∷ [])

abbrev front : List ℕ
front = piece 11 4 0 0 (10 ∷ 20 ∷ [])

abbrev back_piece : Fragment
back_piece = record { kind = 11; total = 4; number = 0; offset = 1; body = 20 ∷ 30 ∷ 40 ∷ [] }

abbrev front_piece : Fragment
front_piece = record { kind = 11; total = 4; number = 0; offset = 0; body = 10 ∷ 20 ∷ [] }

abbrev with_back : Account
with_back = behind 1 new_account back

-- the pieces come in reverse order and the first doubled
in_three-records : (told 2 new_account back ≡ held ∷ over ∷ []) × (told 2 with_back again ≡ same ∷ over ∷ [])
    × (told 2 (behind 1 with_back again) front ≡ whole 11 0 4 ∷ over ∷ [])
unfolding opened
in_three-records = (refl, refl, refl)

in_one_record : (told 4 new_account (back ++ again ++ front) ≡ held ∷ same ∷ whole 11 0 4 ∷ over ∷ [])
    × (behind 2 new_account (back ++ again ++ front) ≡ record { out = 0; pieces = back_piece ∷ []; size = 44; place = 30 })
    × (behind 4 new_account (back ++ again ++ front) ≡ record { out = 1; pieces = []; size = 44; place = 44 })
unfolding opened
in_one_record = (refl, refl, refl)

-- each byte as the first piece that has it
bytes_of : (byte_of (front_piece ∷ back_piece ∷ []) 0 ≡ 10) × (byte_of (front_piece ∷ back_piece ∷ []) 1 ≡ 20)
    × (byte_of (front_piece ∷ back_piece ∷ []) 2 ≡ 30) × (byte_of (front_piece ∷ back_piece ∷ []) 3 ≡ 40)
unfolding opened
bytes_of = (refl, refl, refl, refl)

-- ---- 28

-- the same place with other bytes, the first, the middle and the last of them; a shared byte of a piece at another place; another type; another total,
-- also of an empty piece
disagreements : (told 1 with_back (piece 11 4 0 1 (21 ∷ 30 ∷ 40 ∷ [])) ≡ ended 28 ∷ []) × (told 1 with_back (piece 11 4 0 1 (20 ∷ 31 ∷ 40 ∷ [])) ≡ ended 28 ∷ [])
    × (told 1 with_back (piece 11 4 0 1 (20 ∷ 30 ∷ 41 ∷ [])) ≡ ended 28 ∷ []) × (told 1 with_back (piece 11 4 0 0 (10 ∷ 77 ∷ [])) ≡ ended 28 ∷ [])
    × (told 1 with_back (piece 22 4 0 0 (10 ∷ 20 ∷ [])) ≡ ended 28 ∷ []) × (told 1 with_back (piece 22 4 0 1 (20 ∷ 30 ∷ 40 ∷ [])) ≡ ended 28 ∷ [])
    × (told 1 with_back (piece 11 9 0 0 (10 ∷ 20 ∷ [])) ≡ ended 28 ∷ []) × (told 1 with_back (piece 11 5 0 1 []) ≡ ended 28 ∷ [])
unfolding opened
disagreements = (refl, refl, refl, refl, refl, refl, refl, refl)

-- a piece that only touches shares no byte, whatever it brings; the first piece disagrees with none
touching : (told 1 with_back (piece 11 4 0 0 (77 ∷ [])) ≡ whole 11 0 4 ∷ []) × (told 1 new_account (piece 22 9 0 1 (99 ∷ [])) ≡ held ∷ [])
unfolding opened
touching = (refl, refl)

-- "the message so far is kept", and the record is over: the right piece completes it afterwards
kept_so_far : (told 3 with_back (piece 11 4 0 0 (10 ∷ 77 ∷ []) ++ front) ≡ ended 28 ∷ over ∷ over ∷ [])
    × (behind 3 with_back (piece 11 4 0 0 (10 ∷ 77 ∷ []) ++ front) ≡ record { out = 0; pieces = back_piece ∷ []; size = 28; place = 28 })
    × (told 1 (behind 3 with_back (piece 11 4 0 0 (10 ∷ 77 ∷ []) ++ front)) front ≡ whole 11 0 4 ∷ [])
unfolding opened
kept_so_far = (refl, refl, refl)

-- ---- the same, and different

-- another length at the same offset is a different piece, and so is the same length at another, also where all its bytes are there; an empty one too
different : told 5 new_account (back ++ piece 11 4 0 1 (20 ∷ []) ++ piece 11 4 0 1 [] ++ piece 11 4 0 1 [] ++ piece 11 4 0 2 (30 ∷ []))
    ≡ held ∷ held ∷ held ∷ same ∷ held ∷ []
unfolding opened
different = refl

-- ---- other messages

-- message 1 while 0 is expected is passed over, also with a total of 16,385 and past its own total; so is message 0 once it is out
passed-over : (told 4 new_account (piece 1 1 1 0 (5 ∷ []) ++ (1 ∷ 0 ∷ 64 ∷ 1 ∷ 0 ∷ 1 ∷ 0 ∷ 0 ∷ 0 ∷ 0 ∷ 0 ∷ 1 ∷ 5 ∷ []) ++ piece 1 1 1 9 (5 ∷ []))
    ≡ other 1 ∷ other 1 ∷ other 1 ∷ over ∷ [])
    × (told 3 new_account (piece 1 1 0 0 (5 ∷ []) ++ piece 1 1 0 0 (5 ∷ [])) ≡ whole 1 0 1 ∷ other 0 ∷ over ∷ [])
    × (told 2 new_account (piece 1 1 1 0 (5 ∷ []) ++ (1 ∷ 0 ∷ [])) ≡ other 1 ∷ ended 24 ∷ [])
unfolding opened
passed-over = (refl, refl, refl)

-- "an empty body by its one piece": message 1 of type 14
empty-body : told 3 new_account (piece 1 1 0 0 (5 ∷ []) ++ piece 14 0 1 0 []) ≡ whole 1 0 1 ∷ whole 14 1 0 ∷ over ∷ []
unfolding opened
empty-body = refl

-- ---- 24

-- past its own total: the record is over, and what was held stays
past-own-total : (told 4 new_account (back ++ piece 11 4 0 3 (40 ∷ 50 ∷ []) ++ front) ≡ held ∷ ended 24 ∷ over ∷ over ∷ [])
    × (behind 4 new_account (back ++ piece 11 4 0 3 (40 ∷ 50 ∷ []) ++ front) ≡ record { out = 0; pieces = back_piece ∷ []; size = 43; place = 43 })
    × (told 1 new_account (piece 11 4 0 3 (40 ∷ [])) ≡ held ∷ []) × (told 1 new_account (piece 11 4 0 4 (50 ∷ [])) ≡ ended 24 ∷ [])
unfolding opened
past-own-total = (refl, refl, refl, refl)

-- past the held total, though within its own, and before 28; a piece of that total which does not run past the held one is 28; before sameness, a total of
-- its own that is too small
past-held-total : (told 1 with_back (piece 11 9 0 4 (50 ∷ [])) ≡ ended 24 ∷ []) × (told 1 with_back (piece 11 9 0 3 (40 ∷ [])) ≡ ended 28 ∷ [])
    × (told 1 with_back (piece 11 3 0 1 (20 ∷ 30 ∷ 40 ∷ [])) ≡ ended 24 ∷ [])
unfolding opened
past-held-total = (refl, refl, refl)

-- a total of 16,384 fits, up to its last byte, and 16,385 does not
largest_total : (told 1 new_account (1 ∷ 0 ∷ 64 ∷ 0 ∷ 0 ∷ 0 ∷ 0 ∷ 63 ∷ 255 ∷ 0 ∷ 0 ∷ 1 ∷ 5 ∷ []) ≡ held ∷ [])
    × (told 1 new_account (1 ∷ 0 ∷ 64 ∷ 0 ∷ 0 ∷ 0 ∷ 0 ∷ 64 ∷ 0 ∷ 0 ∷ 0 ∷ 1 ∷ 5 ∷ []) ≡ ended 24 ∷ [])
    × (told 1 new_account (1 ∷ 0 ∷ 64 ∷ 1 ∷ 0 ∷ 0 ∷ 0 ∷ 0 ∷ 0 ∷ 0 ∷ 0 ∷ 1 ∷ 5 ∷ []) ≡ ended 24 ∷ [])
unfolding opened
largest_total = (refl, refl, refl)

-- the first byte of total, offset and length counts: 65,537, 65,536 and 65,537 are each too large
high-bytes : (told 1 new_account (1 ∷ 1 ∷ 0 ∷ 1 ∷ 0 ∷ 0 ∷ 0 ∷ 0 ∷ 0 ∷ 0 ∷ 0 ∷ 1 ∷ 5 ∷ []) ≡ ended 24 ∷ [])
    × (told 1 new_account (1 ∷ 0 ∷ 0 ∷ 1 ∷ 0 ∷ 0 ∷ 1 ∷ 0 ∷ 0 ∷ 0 ∷ 0 ∷ 1 ∷ 5 ∷ []) ≡ ended 24 ∷ [])
    × (told 1 new_account (1 ∷ 0 ∷ 0 ∷ 1 ∷ 0 ∷ 0 ∷ 0 ∷ 0 ∷ 0 ∷ 1 ∷ 0 ∷ 1 ∷ 5 ∷ []) ≡ ended 24 ∷ [])
    × (told 1 new_account (1 ∷ 0 ∷ 0 ∷ 1 ∷ 0 ∷ 0 ∷ 0 ∷ 0 ∷ 0 ∷ 0 ∷ 0 ∷ 1 ∷ 5 ∷ []) ≡ whole 1 0 1 ∷ [])
unfolding opened
high-bytes = (refl, refl, refl, refl)

-- a header cut short, a body cut short
past_record : (told 1 new_account (11 ∷ 0 ∷ 0 ∷ 4 ∷ 0 ∷ 0 ∷ 0 ∷ 0 ∷ 0 ∷ 0 ∷ 0 ∷ []) ≡ ended 24 ∷ [])
    × (told 1 new_account (11 ∷ 0 ∷ 0 ∷ 4 ∷ 0 ∷ 0 ∷ 0 ∷ 0 ∷ 0 ∷ 0 ∷ 0 ∷ 2 ∷ 10 ∷ []) ≡ ended 24 ∷ [])
    × (told 1 new_account (11 ∷ 0 ∷ 0 ∷ 4 ∷ 0 ∷ 0 ∷ 0 ∷ 0 ∷ 0 ∷ 0 ∷ 0 ∷ 2 ∷ 10 ∷ 20 ∷ []) ≡ held ∷ [])
unfolding opened
past_record = (refl, refl, refl)

-- 65,534 is the last message, here of type 254; with 65,535 expected its pieces are 24, and those of others are passed over
abbrev out_before : ℕ → Account
out_before n = record { out = n; pieces = []; size = 0; place = 0 }

abbrev one_byte : ℕ → List ℕ
one_byte low = 254 ∷ 0 ∷ 0 ∷ 1 ∷ 255 ∷ low ∷ 0 ∷ 0 ∷ 0 ∷ 0 ∷ 0 ∷ 1 ∷ 5 ∷ []

last-message : (told 2 (out_before 65534) (one_byte 254 ++ one_byte 255) ≡ whole 254 65534 1 ∷ ended 24 ∷ [])
    × (told 3 (out_before 65535) (one_byte 254 ++ one_byte 255 ++ one_byte 254) ≡ other 65534 ∷ ended 24 ∷ over ∷ [])
unfolding opened
last-message = (refl, refl)

-- ---- 25

-- n pieces of one byte each, of a message of 51 bytes, one behind the other
abbrev single : ℕ → List ℕ
single k = piece 1 51 0 k (7 ∷ [])

abbrev singles : ℕ → List Fragment
singles zero = []
singles (suc k) = record { kind = 1; total = 51; number = 0; offset = k; body = 7 ∷ [] } ∷ singles k

abbrev holding : ℕ → Account
holding n = record { out = 0; pieces = singles n; size = 0; place = 0 }

-- a fiftieth piece is taken; with 50 taken the same again is the same, 24 and 28 come first, and a fifty-first is 25, though it is the last that is missing
fifty : (told 1 (holding 49) (single 49) ≡ held ∷ []) × (told 3 (holding 50) (single 49 ++ single 50 ++ single 0) ≡ same ∷ ended 25 ∷ over ∷ [])
    × (told 1 (holding 50) (piece 1 51 0 51 (7 ∷ [])) ≡ ended 24 ∷ []) × (told 1 (holding 50) (piece 1 51 0 49 (8 ∷ 7 ∷ [])) ≡ ended 28 ∷ [])
    × (behind 2 (holding 50) (single 49 ++ single 50) ≡ record { out = 0; pieces = singles 50; size = 26; place = 26 })
    × (told 1 (holding 49) (piece 1 51 0 49 (7 ∷ 8 ∷ [])) ≡ whole 1 0 51 ∷ [])
unfolding opened
fifty = (refl, refl, refl, refl, refl, refl)

-- ---- 16 and 15

-- 16 comes before another length, the record's end, 24 and a message, and changes nothing; then 15, before the record's end, which changes nothing too
first_tests : (owed new_account (5 ∷ []) 16383 ≡ turned 16) × (owed new_account [] 16383 ≡ turned 16)
    × (owed (begins new_account 1) (5 ∷ []) 16383 ≡ turned 16) × (owed (begins with_back 14) front 16383 ≡ turned 16)
    × (after (begins with_back 14) front 16383 ≡ begins with_back 14) × (owed (begins with_back 14) front 16384 ≡ whole 11 0 4)
    × (owed with_back front 16384 ≡ turned 15) × (after with_back front 16384 ≡ with_back)
    × (owed new_account (5 ∷ []) 16384 ≡ turned 15) × (owed new_account [] 16384 ≡ over)
unfolding opened
first_tests = (refl, refl, refl, refl, refl, refl, refl, refl, refl, refl)

-- ---- a list of calls

-- k calls for the pieces of content c, each over the buffer as the last call left it
abbrev lends : Piecing → List ℕ → ℕ → List PieceCall
lends p c zero = []
lends p c (suc k) = take· c p.left ∷ lends (does p (take· c p.left)) c k

lends-fair : (p : Piecing) (c : List ℕ) (k : ℕ) → AllFair p (lends p c k)
lends-fair p c zero = tt
lends-fair p c (suc k) = (lends_again p c, lends-fair (does p (take· c p.left)) c k)

-- the place of the first piece with another byte, as a gateway with faulty memory sends it
abbrev altered : List ℕ
altered = piece 11 4 0 1 (20 ∷ 31 ∷ 40 ∷ [])

-- the same again, the first bytes, message 1 with an empty body, and a piece of message 0
abbrev later : List ℕ
later = again ++ front ++ piece 14 0 1 0 [] ++ front

-- a buffer of 16,384 zeros is lent for the first piece and as it was left for the altered one, then one that is too short, then one that has the
-- first piece's three bytes and nines around them
abbrev zeros : List ℕ
zeros = replicate 16384 0

abbrev nines : List ℕ
nines = 9 ∷ 20 ∷ 30 ∷ 40 ∷ replicate 16380 9

abbrev first : Piecing
first = ran new_piecing (begin· 15 ∷ take· back zeros ∷ begin· 15 ∷ [])

abbrev early : List PieceCall
early = begin· 15 ∷ take· back zeros ∷ begin· 15 ∷ take· altered first.left ∷ begin· 55 ∷ take· later (1 ∷ []) ∷ []

abbrev between : Piecing
between = ran new_piecing early

calls : List PieceCall
calls = early ++ (take· later nines ∷ lends (does between (take· later nines)) later 4)

nines-fair : (i : ℕ) → covers (back_piece ∷ []) i ≡ true → get_or nines i 0 ≡ get_or between.left i 0
unfolding opened
nines-fair zero e = absurd (false≢true e)
nines-fair (suc zero) e = refl
nines-fair (suc (suc zero)) e = refl
nines-fair (suc (suc (suc zero))) e = refl
nines-fair (suc (suc (suc (suc i)))) e =
    either-cases _ _ e (λ t. let l = ltb-true (suc (suc (suc (suc i)))) 4 (both_right (leb 1 (suc (suc (suc (suc i))))) _ t) in absurd (omega arith))
    (λ t u. absurd (false≢true u))

calls-fair : AllFair new_piecing calls
unfolding opened calls
calls-fair = (
  tt,
  (
    λ room i e. absurd (false≢true e),
    (tt, (lends_again first altered, (tt, (λ room. absurd (omega arith), (λ room. nines-fair, lends-fair (does between (take· later nines)) later 4))))),
  ),
)

-- so all that is claimed holds of it
calls_hold : Assembled (ran new_piecing calls)
calls_hold = every-run calls calls-fair

abbrev replies : List Told → List Verdict
replies [] = []
replies (t ∷ ts) = t.reply ∷ replies ts

-- what the host is told, the last first; and the messages, the last first, with 30 as the first piece brought it, no 31 and no nine
calls-told : replies (ran new_piecing calls).told
    ≡ over ∷ other 0 ∷ whole 14 1 0 ∷ whole 11 0 4 ∷ same ∷ turned 16 ∷ begun ∷ ended 28 ∷ begun ∷ held ∷ begun ∷ []
unfolding opened calls
calls-told = refl

calls-messages : (ran new_piecing calls).messages
    ≡ record { kind = 14; number = 1; body = []; last = record { kind = 14; total = 0; number = 1; offset = 0; body = [] }; earlier = [] }
    ∷ record { kind = 11; number = 0; body = 10 ∷ 20 ∷ 30 ∷ 40 ∷ []; last = front_piece; earlier = back_piece ∷ [] } ∷ []
unfolding opened calls
calls-messages = refl

-- ---- a list of pieces that disagree

-- records of one piece, each begun and asked for over the buffer as the last call left it
abbrev tries : Piecing → List (List ℕ) → List PieceCall
tries p [] = []
tries p (c ∷ cs) = begin· (length c) ∷ take· c p.left ∷ tries (ran p (begin· (length c) ∷ take· c p.left ∷ [])) cs

tries-fair : (p : Piecing) (cs : List (List ℕ)) → AllFair p (tries p cs)
tries-fair p [] = tt
tries-fair p (c ∷ cs) = (tt, (λ room i e. refl, tries-fair (ran p (begin· (length c) ∷ take· c p.left ∷ [])) cs))

-- behind the last three bytes of four: other bytes in their place, the middle and the last; another type; another total, within the held one and past it;
-- an empty piece of another type. Then two pieces that agree: one whose bytes are all there, and one that only touches, with a byte of its own
abbrev disputes : List (List ℕ)
disputes =
    altered ∷ piece 11 4 0 1 (20 ∷ 30 ∷ 41 ∷ []) ∷ piece 22 4 0 1 (20 ∷ 30 ∷ 40 ∷ []) ∷ piece 11 5 0 1 (20 ∷ 30 ∷ 40 ∷ []) ∷ piece 11 5 0 3 (40 ∷ 50 ∷ [])
    ∷ piece 22 4 0 4 [] ∷ piece 11 4 0 2 (30 ∷ []) ∷ piece 11 4 0 0 (77 ∷ []) ∷ []

abbrev start : List PieceCall
start = begin· 15 ∷ take· back zeros ∷ []

disputed : List PieceCall
disputed = start ++ tries (ran new_piecing start) disputes

disputed-fair : AllFair new_piecing disputed
unfolding opened disputed
disputed-fair = (tt, (λ room i e. absurd (false≢true e), tries-fair (ran new_piecing start) disputes))

disputed_hold : Assembled (ran new_piecing disputed)
disputed_hold = every-run disputed disputed-fair

disputed-told : replies (ran new_piecing disputed).told
    ≡ whole 11 0 4 ∷ begun ∷ held ∷ begun ∷ ended 28 ∷ begun ∷ ended 24 ∷ begun ∷ ended 28 ∷ begun ∷ ended 28 ∷ begun ∷ ended 28 ∷ begun ∷ ended 28 ∷ begun
    ∷ held ∷ begun ∷ []
unfolding opened disputed
disputed-told = refl

-- the message has the bytes of all three pieces taken for it
disputed-message : (ran new_piecing disputed).messages
    ≡ record {
      kind = 11;
      number = 0;
      body = 77 ∷ 20 ∷ 30 ∷ 40 ∷ [];
      last = record { kind = 11; total = 4; number = 0; offset = 0; body = 77 ∷ [] };
      earlier = record { kind = 11; total = 4; number = 0; offset = 2; body = 30 ∷ [] } ∷ back_piece ∷ [];
    } ∷ []
unfolding opened disputed
disputed-message = refl

-- 12 is told only of words that no call made, here with 51 pieces held
setting-told : verdict_of (assembly.taken (0 ∷ 51 ∷ replicate 104 0) [] zeros).answer ≡ turned 12
unfolding opened
setting-told = refl
