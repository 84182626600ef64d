-- The header: reading and image are inverse, a line for each field.
use mathlib.Core.Path.{◌≡◌, refl, sym, ap, ◌∙◌}
use mathlib.Core.List.{List, ◌++◌, append_assoc, append-nil}
use Prim.Native.Nat.{ℕ, ◌+◌, ◌≤◌}
use native.Mathlib.Omega.{arith}
use native.Mathlib.Nat.{le_refl}
use lib.ListN.{length}
use lib.Dec.{leb, lit<}
use borrow.Author.Tests.{leb-true, le-leb}
use Rattle.octets.specs.Limits.{longest, most_listed}
use Rattle.octets.specs.Reading.{ok, part, exactly}
use Rattle.octets.specs.Writing.{word, Each, Octet}
use Rattle.headers.specs.Header.{Header, namespace_at, id_at, header_from, header_at, namespace_image, header_image, GoodNamespace, GoodHeader}
use Rattle.octets.proofs.Spans.{join, middle, part_spans, part_is, spans_octets, word_octets, each_append}
use Rattle.octets.proofs.Inverse.{Inverse, Answer, Any, after, settle, chosen, done, seq, seq_on, several, finally}
use Rattle.octets.proofs.Fields.{number_whole, count_inverse, exactly_inverse}
use Rattle.texts.proofs.Fields.{text_whole}

module _ (s : List ℕ) where
  pub namespace_inverse : Inverse s (length s) (namespace_at s) namespace_image Any GoodNamespace
  unfolding namespace_at namespace_image
  namespace_inverse =
      finally
      (seq (λ n. n.uri) (text_whole s) λ uri _.
      seq (λ n. n.short) (text_whole s) λ short _.
      done (record { uri = uri; short = short }) (search) (λ n f. λ i. record { uri = f.0.1 i; short = f.1 i }))
      (λ n. simp append-nil) (λ n g. search) (λ n g. search)

  pub id_inverse : Inverse s (length s) (id_at s) (λ id. word 4 16 ++ id) Any (λ id. (length id ≡ 16) × Each Octet id)
  unfolding id_at
  id_inverse =
      record {
        back = λ id {at} {next} _ g p.
            let (p₁, p₂) = middle (word 4 16) id p in
            let mid : ℕ = at + length (word 4 16) in
            let there : part s mid 16 ≡ id = ap (part s mid) (sym g.0) ∙ part_is p₂ in
            let place : next ≡ mid + 16 = omega (arith, p₂.place, g.0) in
            rw ((exactly_inverse s 16 5 (lit< tt)).back 16 tt refl p₁, le-leb (mid + 16) (length s) (omega (arith, p₂.inside)), there, place);
        forth = λ o {a = id} {at} h e.
            after (exactly 16 5 s at) _ e λ m next e₁ e₂.
            let (u, g, p) = (exactly_inverse s 16 5 (lit< tt)).forth o h e₁ in
            let (t, e₃) = chosen (leb (next + 16) (length s)) (λ _. ok (part s next 16) (next + 16)) 1 at e₂ in
            let (long, q) = part_spans next 16 (leb-true (next + 16) (length s) t) (le_refl (length s)) in
            settle (Answer s (length s) (λ x. word 4 16 ++ x) Any (λ x. (length x ≡ 16) × Each Octet x) at) e₃
            (tt, (long, spans_octets o q), join (rw (← g) at p) q);
        octets = λ id _ g. each_append (word 4 16) id (word_octets 4 16) g.1;
      }

  pub header_inverse : Inverse s (length s) (header_from s) header_image Any GoodHeader
  unfolding header_from header_image
  header_inverse =
      finally
      (seq (λ h. 4) (exactly_inverse s 4 3 (lit< tt)) λ _ g₁.
      seq (λ h. h.recorder) (text_whole s) λ recorder _.
      seq (λ h. h.start) (number_whole s 8) λ start _.
      seq (λ h. h.default) (text_whole s) λ default _.
      seq (λ h. length h.others) (count_inverse s most_listed (lit< tt)) λ k _.
      seq_on (λ h. h.others) (several namespace_inverse k) (λ h f. f.1) λ others n₁ _.
      seq (λ h. length h.services) (count_inverse s most_listed (lit< tt)) λ m _.
      seq_on (λ h. h.services) (several (text_whole s) m) (λ h f. f.1) λ services n₂ _.
      seq (λ h. h.id) id_inverse λ id _.
      seq (λ h. 0xffffffff) (exactly_inverse s 0xffffffff 6 (lit< tt)) λ _ g₂.
      done (record { recorder = recorder; start = start; default = default; others = others; services = services; id = id })
      (search)
      (λ h f. λ i.
      record {
        recorder = f.0.0.0.0.0.0.0.0.1 i;
        start = f.0.0.0.0.0.0.0.1 i;
        default = f.0.0.0.0.0.0.1 i;
        others = f.0.0.0.0.1 i;
        services = f.0.0.1 i;
        id = f.0.1 i;
      }))
      (λ h. simp (append_assoc, append-nil)) (λ h g. search) (λ h g. search)

  -- A document's header, where it is accepted, is inside the limits and ends in the document.
  pub header_forth : {h : Header} {next : ℕ} → Each Octet s → header_at s ≡ ok h next → GoodHeader h × (next ≤ length s)
  unfolding header_at
  header_forth o e =
      let (t, from) = chosen (leb (length s) longest) (λ _. header_from s 0) 2 0 e in
      let (_, good, span) = header_inverse.forth o (omega arith) from in
      (good, span.inside)
