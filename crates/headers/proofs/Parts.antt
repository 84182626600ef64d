-- The equations of a header under the limit, of the document id, of the two lists by the ends of their items, and of a whole header by its parts.
use Prim.Native.Nat.{ℕ, ◌+◌, ◌≤◌, ◌<◌}
use mathlib.Core.Path.{◌≡◌, refl, sym, ap, ◌∙◌, subst}
use mathlib.Core.List.{List}
use native.Mathlib.Omega.{arith}
use lib.ListN.{length}
use lib.Dec.{leb}
use borrow.Author.Tests.{le-leb, lt-leb}
use Rattle.octets.specs.Limits.{longest, most_listed}
use Rattle.octets.specs.Reading.{Read, ok, no, ◌then◌, choose, ends, part, number, count, exactly, run}
use Rattle.octets.proofs.Inverse.{after, chosen}
use Rattle.octets.proofs.Ends.{on, made, stop, stop_both, ended, run_ends, count_is, exactly_place, number_place}
use Rattle.octets.proofs.Runs.{run_length}
use Rattle.texts.specs.Texts.{text}
use Rattle.headers.specs.Header.{namespace_at, id_at, header_from, header_at}
use Rattle.headers.specs.Answers.{Accepted}

-- The header of a document, too long or not.
module _ (s : List ℕ) where
  pub header_long : longest < length s → header_at s ≡ no 2 0
  unfolding header_at
  header_long h = rw (lt-leb (length s) longest h) refl

  pub header_short : length s ≤ longest → header_at s ≡ header_from s 0
  unfolding header_at
  header_short h = rw (le-leb (length s) longest h) refl

module _ (s : List ℕ) (at : ℕ) where
  pub id_unsized : (n p : ℕ) → ends (exactly 16 5 s at) ≡ no n p → ends (id_at s at) ≡ no n p
  unfolding id_at
  id_unsized n p e = stop (exactly 16 5 s at) _ n p e

  sized : (next : ℕ) → ends (exactly 16 5 s at) ≡ ok next next
      → id_at s at ≡ choose (leb (next + 16) (length s)) (λ _. ok (part s next 16) (next + 16)) (λ _. no 1 at)
  unfolding id_at
  sized next e = let (m, f) = ended (exactly 16 5 s at) next e in rw f refl

  pub id_cut : (next : ℕ) → ends (exactly 16 5 s at) ≡ ok next next → length s < next + 16 → ends (id_at s at) ≡ no 1 at
  id_cut next e h = ap ends (sized next e) ∙ rw (lt-leb (next + 16) (length s) h) refl

  pub id_whole : (next : ℕ) → ends (exactly 16 5 s at) ≡ ok next next → next + 16 ≤ length s → ends (id_at s at) ≡ ok (next + 16) (next + 16)
  id_whole next e h = ap ends (sized next e) ∙ rw (le-leb (next + 16) (length s) h) refl

  -- An id that was read stands behind its length.
  pub id_place : (id : List ℕ) (next : ℕ) → id_at s at ≡ ok id next → next ≡ at + 20
  unfolding id_at
  id_place id next e =
      after (exactly 16 5 s at) _ e λ m mid e₁ e₂.
      let p = exactly_place s at 16 5 m mid e₁ in
      let (t, e₃) = chosen (leb (mid + 16) (length s)) (λ _. ok (part s mid 16) (mid + 16)) 1 at e₂ in
      let q : mid + 16 ≡ next = cc in
      omega arith

-- A namespace by its strings: refused as the first, and behind it ends as the second.
module _ (s : List ℕ) (at : ℕ) where
  pub namespace_stop : (n p : ℕ) → ends (text s at) ≡ no n p → ends (namespace_at s at) ≡ no n p
  unfolding namespace_at
  namespace_stop n p e = stop (text s at) _ n p e

  pub namespace_on : (next : ℕ) → ends (text s at) ≡ ok next next → ends (namespace_at s at) ≡ ends (text s next)
  unfolding namespace_at
  namespace_on next e = on (text s at) _ (λ m. ends (text s m)) next (λ uri m. made (text s m) _) e

module _ (s : List ℕ) where
  -- The parts as the code reads them. A list is a count and items.
  abbrev pub recorder_read : Read (List ℕ)
  recorder_read = exactly 4 3 s 0 then λ _ next. text s next

  abbrev pub default_read : ℕ → Read (List ℕ)
  default_read at = number 8 s at then λ _ next. text s next

  abbrev pub list_read : (ℕ → Read ℕ) → ℕ → Read (List ℕ)
  list_read one at = count most_listed s at then λ k next. run one k next

  -- Of the items of either list, where each ends.
  abbrev pub space_read : ℕ → Read ℕ
  space_read at = ends (namespace_at s at)

  abbrev pub service_read : ℕ → Read ℕ
  service_read at = ends (text s at)

  abbrev close_read : ℕ → Read ℕ
  close_read at = id_at s at then λ _ next. exactly 0xffffffff 6 s next

  -- What stands before the lists.
  record Fronted (start namespaces : ℕ) : Type 0 where
    version : ℕ
    is_four : exactly 4 3 s 0 ≡ ok version 4
    recorder : List ℕ
    records : text s 4 ≡ ok recorder start
    time : ℕ
    starts : number 8 s start ≡ ok time (start + 8)
    default : List ℕ
    defaults : text s (start + 8) ≡ ok default namespaces

  front : (start namespaces : ℕ) → ok start start ≡ ends recorder_read → ok namespaces namespaces ≡ ends (default_read start) → Fronted start namespaces
  front start namespaces e f =
      let (recorder, e₀) = ended recorder_read start (sym e) in
      let (default, f₀) = ended (default_read start) namespaces (sym f) in
      after (exactly 4 3 s 0) _ e₀ λ version a e₁ e₂.
      after (number 8 s start) _ f₀ λ time c f₁ f₂.
      let p : a ≡ 4 = exactly_place s 0 4 3 version a e₁ in
      let q : c ≡ start + 8 = number_place 8 s start time c f₁ in
      record {
        version = version;
        is_four = e₁ ∙ ap (ok version) p;
        recorder = recorder;
        records = subst (λ (n : ℕ). text s n ≡ ok recorder start) p e₂;
        time = time;
        starts = f₁ ∙ ap (ok time) q;
        default = default;
        defaults = subst (λ (n : ℕ). text s n ≡ ok default namespaces) q f₂;
      }

  -- A list that was read: its count and its items.
  record Listed {A : Type 0} (one : ℕ → Read A) (at end : ℕ) : Type 0 where
    items : List A
    counts : count most_listed s at ≡ ok (length items) (at + 4)
    number : number 4 s at ≡ ok (length items) (at + 4)
    reads : run one (length items) (at + 4) ≡ ok items end

  -- A list ends where the ends of its items do.
  module _ {A : Type 0} (one : ℕ → Read A) (at : ℕ) where
    list_alike : ends (count most_listed s at then λ k next. run one k next) ≡ ends (list_read (λ p. ends (one p)) at)
    list_alike = go (count most_listed s at)
      where
        go : (r : Read ℕ) → ends (r then λ k next. run one k next) ≡ ends (r then λ k next. run (λ p. ends (one p)) k next)
        go (ok k next) = run_ends one k next
        go (no n p) = refl

    listed : (end : ℕ) → ok end end ≡ ends (list_read (λ p. ends (one p)) at) → Listed one at end
    listed end e =
        let (xs, f) = ended (count most_listed s at then λ k next. run one k next) end (list_alike ∙ sym e) in
        after (count most_listed s at) _ f λ k next e₁ e₂.
        let c = count_is s at 16 k next e₁ in
        let long : k ≡ length xs = sym (run_length one k next end xs e₂) in
        record {
          items = xs;
          counts = e₁ ∙ (ap (ok k) c.1 ∙ ap (λ (n : ℕ). ok n (at + 4)) long);
          number = c.2 ∙ ap (λ (n : ℕ). ok n (at + 4)) long;
          reads = subst (λ (p : ℕ). run one (length xs) p ≡ ok xs end) c.1 (subst (λ (n : ℕ). run one n next ≡ ok xs end) long e₂);
        }

  -- A header is refused where the first of its parts is, each behind those that were read.
  pub refused_recorder : (n p : ℕ) → no n p ≡ ends recorder_read → header_from s 0 ≡ no n p
  unfolding header_from
  refused_recorder n p e = stop_both (exactly 4 3 s 0) _ _ n p (sym e)

  module _ (start : ℕ) (recorded : ok start start ≡ ends recorder_read) where
    pub refused_default : (n p : ℕ) → no n p ≡ ends (default_read start) → header_from s 0 ≡ no n p
    unfolding header_from
    refused_default n p e =
        let (recorder, e₀) = ended recorder_read start (sym recorded) in
        after (exactly 4 3 s 0) _ e₀ λ version a e₁ e₂.
        rw (e₁, e₂) (stop_both (number 8 s start) _ _ n p (sym e))

    module _ (namespaces : ℕ) (named : ok namespaces namespaces ≡ ends (default_read start)) where
      f : Fronted start namespaces
      f = front start namespaces recorded named

      pub refused_namespaces : (n p : ℕ) → no n p ≡ ends (list_read space_read namespaces) → header_from s 0 ≡ no n p
      unfolding header_from
      refused_namespaces n p e =
          rw (f.is_four, f.records, f.starts, f.defaults) (stop_both (count most_listed s namespaces) _ _ n p (list_alike (namespace_at s) namespaces ∙ sym e))

      module _ (services : ℕ) (spaced : ok services services ≡ ends (list_read space_read namespaces)) where
        l : Listed (namespace_at s) namespaces services
        l = listed (namespace_at s) namespaces services spaced

        pub refused_services : (n p : ℕ) → no n p ≡ ends (list_read service_read services) → header_from s 0 ≡ no n p
        unfolding header_from
        refused_services n p e =
            rw (f.is_four, f.records, f.starts, f.defaults, l.counts, l.reads) (stop_both (count most_listed s services) _ _ n p (list_alike (text s) services ∙ sym e))

        module _ (id : ℕ) (served : ok id id ≡ ends (list_read service_read services)) where
          m : Listed (text s) services id
          m = listed (text s) services id served

          pub refused_close : (n p : ℕ) → no n p ≡ ends (close_read id) → header_from s 0 ≡ no n p
          unfolding header_from
          refused_close n p e =
              rw (f.is_four, f.records, f.starts, f.defaults, l.counts, l.reads, m.counts, m.reads) (stop_both (id_at s id) _ _ n p (sym e))

          -- A header whose parts are all accepted.
          pub accepted : length s ≤ longest → (end : ℕ) → ok end end ≡ ends (close_read id)
              → Accepted s (header_from s 0) (record { start = start; namespaces = namespaces; services = services; id = id; end = end })
          unfolding header_from
          accepted short end e =
              let (four, e₀) = ended (close_read id) end (sym e) in
              after (id_at s id) _ e₀ λ value next e₁ e₂.
              record {
                header = record { recorder = f.recorder; start = f.time; default = f.default; others = l.items; services = m.items; id = value };
                reads = rw (f.is_four, f.records, f.starts, f.defaults, l.counts, l.reads, m.counts, m.reads, e₁, e₂) refl;
                located =
                    record {
                      recorder = f.records;
                      start = f.starts;
                      default = f.defaults;
                      namespaces = l.number;
                      others = l.reads;
                      counted = m.number;
                      services = m.reads;
                      id = e₁ ∙ ap (ok value) (id_place s id value next e₁);
                    };
                short = short;
              }
