-- The faults by the scope's numbers.
use Rattle.std.specs.Prelude.{ℕ, ◌-◌, List, [], ◌∷◌, get_or, ◌≡◌, refl}
use Rattle.std.proofs.Common.{ap}
use Rattle.octets.specs.declared.Fault.{Fault}
use Rattle.octets.specs.declared.Fault.TheVariants as f
use Rattle.octets.specs.declared.Refused.TheInside.{Inside}

abbrev pub number_of : Fault → ℕ
number_of f.CutShort = 1
number_of f.TooLong = 2
number_of f.Version = 3
number_of f.Count = 4
number_of f.Id = 5
number_of f.Open = 6
number_of f.Kind = 7
number_of f.Type = 8
number_of f.UserType = 9
number_of f.Differs = 10
number_of f.BookFull = 11
number_of f.NoLayout = 12
number_of f.RowLength = 13
number_of f.Boolean = 14
number_of f.EndCount = 15
number_of f.AfterEnd = 16
number_of f.Lent = 17
number_of f.NotThere = 18
number_of f.OtherKind = 19
number_of f.OutOfTurn = 20
number_of f.Value = 21
number_of f.Unfinished = 22
number_of f.NoRoom = 23
number_of f.NotUtf8 = 24

abbrev pub faults : List Fault
faults = f.CutShort ∷ f.TooLong ∷ f.Version ∷ f.Count ∷ f.Id ∷ f.Open ∷ f.Kind ∷ f.Type ∷ f.UserType ∷ f.Differs ∷ f.BookFull ∷ f.NoLayout ∷ f.RowLength ∷ f.Boolean ∷ f.EndCount ∷ f.AfterEnd ∷ f.Lent ∷ f.NotThere ∷ f.OtherKind ∷ f.OutOfTurn ∷ f.Value ∷ f.Unfinished ∷ f.NoRoom ∷ f.NotUtf8 ∷ []

abbrev pub fault_of : ℕ → Fault
fault_of n = get_or faults (n - 1) f.CutShort

pub back : (x : Fault) → fault_of (number_of x) ≡ x
back f.CutShort = refl
back f.TooLong = refl
back f.Version = refl
back f.Count = refl
back f.Id = refl
back f.Open = refl
back f.Kind = refl
back f.Type = refl
back f.UserType = refl
back f.Differs = refl
back f.BookFull = refl
back f.NoLayout = refl
back f.RowLength = refl
back f.Boolean = refl
back f.EndCount = refl
back f.AfterEnd = refl
back f.Lent = refl
back f.NotThere = refl
back f.OtherKind = refl
back f.OutOfTurn = refl
back f.Value = refl
back f.Unfinished = refl
back f.NoRoom = refl
back f.NotUtf8 = refl

pub inverse_ok : (a : Inside) (h : Unit {0}) → record { fault = fault_of (number_of a.fault); place = a.place } ≡ a
inverse_ok a h = ap (λ (x : Fault). record { fault = x; place = a.place }) (back a.fault)
