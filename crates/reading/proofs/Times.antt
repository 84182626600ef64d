-- The times that are read are bits of 64, so that each is the bits of the signed number that is answered.
use mathlib.Core.Path.{◌≡◌, ap}
use mathlib.Core.List.{List}
use Prim.Native.Nat.{ℕ, ◌^◌, ◌≤◌, ◌<◌}
use native.Mathlib.Omega.{arith}
use lib.ListN.{length}
use Rattle.octets.specs.Limits.{longest}
use Rattle.octets.specs.Reading.{ok, is_ok, number}
use Rattle.octets.specs.Writing.{Each, Octet}
use Rattle.octets.proofs.Inverse.{after}
use Rattle.octets.proofs.Ends.{number_room, first_ok}
use Rattle.layouts.specs.Book.{Book}
use Rattle.headers.specs.Header.{Header, header_at}
use Rattle.headers.proofs.Headers.{header_forth}
use Rattle.elements.specs.Element.{Element, item, finish, Stepped, element_at}
use Rattle.elements.specs.Steps.{lent_book, step_at}
use Rattle.elements.proofs.Before.{lent_forth}
use Rattle.elements.proofs.Elements.{Came, a_layout, a_row, an_end, element_forth}

abbrev pub Timed : Element → Type 0
Timed (item i) = Unit {0}
Timed (finish n t) = t < 2 ^ 64

module _ (s : List ℕ) (o : Each Octet s) where
  pub header_timed : (h : Header) (next : ℕ) → header_at s ≡ ok h next → h.start < 2 ^ 64
  header_timed h next e = (header_forth s o e).0.start

  element_timed : length s ≤ longest → (at rows : ℕ) (book : Book) (st : Stepped) (next : ℕ) → element_at s at rows book ≡ ok st next → Timed st.element
  unfolding element_at
  element_timed short at rows book st next e =
      let room = number_room s at 4 (first_ok (number 4 s at) _ (ap is_ok e)) in
      go (element_forth s short at rows book o (omega arith) e)
    where
      go : {st : Stepped} {next : ℕ} → Came s at rows book st next → Timed st.element
      go (a_layout g m p) = tt
      go (a_row g p) = tt
      go (an_end g whole p) = g

  pub step_timed : (at rows : ℕ) (octets : List ℕ) (used : ℕ) → Each Octet octets → (st : Stepped) (next : ℕ) → step_at s at rows octets used ≡ ok st next → Timed st.element
  unfolding step_at
  step_timed at rows octets used b st next e =
      after (lent_book s rows octets used) _ e λ book mid lent f.
      element_timed (lent_forth s rows octets used b lent).0 at rows book st next f
