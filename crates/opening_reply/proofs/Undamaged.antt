-- A yes hands over exactly what was sealed. Assumes nothing.
use Rattle.std.specs.Prelude.{ℕ, ◌+◌, ◌-◌, ◌<◌, ◌≤◌, length, take, true, List, ◌∷◌, ◌++◌, ◌≡◌, refl, Some, Option}
use Rattle.std.proofs.Common.{eq-eqb, length-append, length-take, sym, ◌∙◌, arith}
use Rattle.std.proofs.lemmas.Bool.{lt-leb}
use Rattle.std.proofs.Math.Seq.{take-append_seam}
use Rattle.std.proofs.Math.Path.{ap}
use Rattle.base.specs.Choose.{if_true, if_false}
use Rattle.base.specs.Parts.{part, part-first}
use Rattle.datagram.specs.Datagram.{is_sound, told, moved, counted, end_asked}
use Rattle.datagram.specs.declared.Ask.{Ask}
use Rattle.datagram.specs.declared.Datagram.{Datagram}
use Rattle.datagram.specs.declared.Question.TheVariants as question
use Rattle.datagram.specs.declared.Reading.TheVariants as says
use Rattle.incoming.specs.Inner.{inner_of, zeros, inner-sealed}
use Rattle.incoming.specs.declared.Inner.{Inner}
use Rattle.recv_keys.specs.Keys.{find, marked, Found}
use Rattle.recv_keys.specs.declared.RecvKeys.{RecvKeys}
use Rattle.record.specs.Record.{tag_size}
use Rattle.opening_reply.proofs.Leads.{opened-asks}
use Rattle.opening_reply.specs.Opening.{still, typed, opened_at, opened_by, openings, opened_step, shown_by}

module _ (k : RecvKeys) (b : Datagram) (a : Ask) (i n t padding : ℕ) (content d : List ℕ) (Typed-Byte : t ≡ 0 → ⊥)
    (plain : part (b.at + a.header_len) (a.length - tag_size) d ≡ content ++ (t ∷ zeros padding)) where
  -- the number is marked, and content and type are handed over
  pub yes_hands : is_sound k b ≡ true → length d ≡ b.size → b.question ≡ question.Opening a n → find k.entries a.epoch k.count ≡ Some i
      → b.readings < 16
      → opened_step k b (Some (a.length - tag_size)) d
      ≡ still (marked k i n)
      (told (moved b (end_asked b a) (b.readings + 1)) (says.Opened a.epoch n t (b.at + a.header_len) (length content)))
  unfolding openings opened_by opened_at typed counted
  yes_hands s l q f room =
      opened-asks k b (Some (a.length - tag_size)) d (question.Opening a n) s l q
      ∙ ap (λ (x : Found). opened_by x (Some (a.length - tag_size)) k b a n d) f
      ∙ if_true _ _ (eq-eqb (a.length - tag_size) (a.length - tag_size) refl)
      ∙ ap (λ (x : Option Inner). still (marked k i n) (typed b a n x)) (ap inner_of plain ∙ inner-sealed content t padding Typed-Byte)
      ∙ ap (still (marked k i n)) (if_false _ _ (lt-leb 16 b.readings room))

  -- the part of the datagram that the reading shows is the content
  pub content-shown : shown_by (says.Opened a.epoch n t (b.at + a.header_len) (length content)) d ≡ content
  content-shown =
      sym (part-first (b.at + a.header_len) (length content) (a.length - tag_size) d (omega (arith, fits)))
      ∙ ap (take (length content)) plain ∙ take-append_seam content (t ∷ zeros padding)
    where
      fits : length content ≤ a.length - tag_size
      fits = omega (arith, simp length-append at (ap length plain), take_short)
        where
          take_short : length (part (b.at + a.header_len) (a.length - tag_size) d) ≤ a.length - tag_size
          take_short = simp length-take (omega arith)
