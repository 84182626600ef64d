-- Demands 2 and 3 for the questions: each reading by steps is a chain of which every element is answered; a row that lacks its layout is refused when asked as its step is. Assumes nothing.
use Prim.Native.Nat.{ℕ, ◌+◌, ◌≤◌}
use mathlib.Core.Path.{◌≡◌, refl, sym, ap, ◌∙◌, subst}
use mathlib.Core.List.{List, ◌∷◌, ◌++◌, append_assoc}
use native.Mathlib.Omega.{arith}
use lib.ListN.{length}
use Rattle.octets.specs.Limits.{book_room}
use Rattle.octets.specs.Reading.{Read, ok, number}
use Rattle.octets.specs.Writing.{Each, Octet}
use Rattle.octets.proofs.Inverse.{ok_value, ok_place}
use Rattle.layouts.specs.Book.{Book}
use Rattle.headers.specs.Header.{header_at}
use Rattle.elements.specs.Walk.{lent_at}
use Rattle.elements.specs.Reading.{Placed, Reading, headed, rows_of}
use Rattle.questions.proofs.Questions.{field_unasked}
use Rattle.questions.proofs.After.{row_kind, row_refused}
use Rattle.promises.specs.BySteps.{Ending, ended, refused, BySteps, answer, FromFirst, no_header, then_steps, Carries}
use Rattle.promises.specs.Resume.{CutAt, Taken, FirstLacking, Resumed}
use Rattle.promises.proofs.Over.{one_first, meets}
use Rattle.promises.proofs.Store.{demand_3}
use Rattle.promises_questions.specs.Answered.{FirstAsked, LackingAsked, ResumedAsked}
use Rattle.promises_questions.proofs.Answered.{asked, header_answered}
use Rattle.promises_questions.proofs.Alike.{alike}

-- The chain of an accepted document's reading.
accepted : {s octets : List ℕ} {x : Read Reading} → FromFirst s octets x → (r : Reading) (end : ℕ) → x ≡ ok r end
    → (next : ℕ) × (header_at s ≡ ok r.header next) × BySteps s (lent_at next 0 octets 0) r.elements (ended end)
accepted (no_header e) r end is = absurd (let z : ◌≡◌ {A = ℕ} 0 1 = cc in omega arith)
accepted {s} {octets} (then_steps {h} {next} {elements} {e} e₁ d q) r end is = go e d (sym q ∙ is)
  where
    go : (e : Ending) → BySteps s (lent_at next 0 octets 0) elements e → headed h (answer elements e) ≡ ok r end
        → (n : ℕ) × (header_at s ≡ ok r.header n) × BySteps s (lent_at n 0 octets 0) r.elements (ended end)
    go (ended p) c z =
        let same : ◌≡◌ {A = Reading} (record { header = h; elements = elements }) r = ok_value refl z in
        let place : p ≡ end = ok_place refl z in (
          next,
          e₁ ∙ ap (λ (x : Reading). ok x.header next) same,
          subst (λ (x : Reading). BySteps s (lent_at next 0 octets 0) x.elements (ended end)) same (subst (λ (n : ℕ). BySteps s (lent_at next 0 octets 0) elements (ended n)) place c),
        )
    go (refused n p) c z = absurd (let w : ◌≡◌ {A = ℕ} 0 1 = cc in omega arith)

pub first_asked : (s : List ℕ) → Each Octet s → (octets : List ℕ) → book_room ≤ length octets → FirstAsked s octets
first_asked s o octets room =
    record {
      header = header_answered s o;
      met = λ h next e elements z d. asked d;
      all = λ r end e. let (next, h, d) = accepted (one_first s o octets room).steps r end e in (next, h, asked d);
    }

pub resumed_asked : (s : List ℕ) → Each Octet s → (before : List Placed) (here : Placed) (behind : List Placed) (end : ℕ) → CutAt s before here behind end
    → (book : Book) → Taken (before ++ here ∷ behind) book → (octets : List ℕ) (used : ℕ) → Carries octets used book
    → ResumedAsked s before here behind book octets used
resumed_asked s o before here behind end cut book taken octets used carries =
    record {
      same = λ all. asked (d.same all);
      lacks = λ met p lack. (asked (d.lacks met p lack), lacking met p lack);
      unneeded = λ h. asked (d.unneeded h);
      alike = λ met p lent first m k. alike o m k;
    }
  where
    d : Resumed s before here behind end book octets used
    d = demand_3 s o before here behind end cut book taken octets used carries

    -- The first-octet reading reads a row there.
    row_there : (met : List Placed) (p : Placed) → FirstLacking book (here ∷ behind) met p → number 4 s p.place ≡ ok 2 (p.place + 4)
    row_there met p lack =
        let (next, h, steps) = accepted (one_first s o octets carries.room).steps (record { header = cut.header; elements = before ++ here ∷ behind }) end cut.accepted in
        let split : before ++ here ∷ behind ≡ (before ++ met) ++ p ∷ lack.others =
        ap (λ (x : List Placed). before ++ x) lack.split ∙ sym (append_assoc before met (p ∷ lack.others)) in
        let m = meets (before ++ met) p lack.others steps split in
        let g = m.given in
        subst (λ (a : ℕ). number 4 s a ≡ ok 2 (a + 4)) m.there
        (row_kind s g.at g.rows g.octets g.used m.stepped m.next m.steps lack.lacking.its (m.element ∙ lack.lacking.is_row))

    lacking : (met : List Placed) (p : Placed) → FirstLacking book (here ∷ behind) met p → LackingAsked s (lent_at here.place (rows_of before) octets used) met p
    lacking met p lack =
        let stop = d.there met p lack in
        let g = stop.given in
        record {
          stops = stop;
          refused = λ n. field_unasked s g.at g.rows g.octets g.used n 12 (p.place + 4)
              (row_refused s g.at g.rows g.octets g.used 12 (p.place + 4)
              (subst (λ (a : ℕ). number 4 s a ≡ ok 2 (a + 4)) (sym stop.there) (row_there met p lack)) stop.refuses);
        }
