-- Demands 2 and 3 for the questions: at each element that a reading by steps meets, asked with what its own step is given, they answer that element; and of an accepted header all that it holds.
use Rattle.std.specs.Prelude.{ℕ, ◌+◌, ◌≤◌, ◌≡◌, List, ◌∷◌, ◌++◌, length, drop, Ok, Err}
use Rattle.octets.specs.Reading.{Read, ok, no, number}
use Rattle.kinds.specs.Kinds.{signed}
use Rattle.layouts.specs.Layout.{Attribute, Layout}
use Rattle.layouts.specs.Book.{Book}
use Rattle.headers.specs.Header.{Header, header_at}
use Rattle.rows.specs.Row.{Field, Row}
use Rattle.elements.specs.Element.{Element, item, layout, row, finish}
use Rattle.elements.specs.Walk.{Lent, lent_at}
use Rattle.elements.specs.Reading.{Placed, Reading, reading, rows_of}
use Rattle.reading.specs.Answers.{head_tells}
use Rattle.octets.specs.Asked.{nth, part_of}
use Rattle.questions.specs.Questions.{field_asked, layout_asked, attribute_asked}
use Rattle.kinds.specs.Values.{value_of, octets_of}
use Rattle.questions.specs.Answers.{field_tells, kind_tells}
use Rattle.header_questions.specs.Questions.{namespaces_place, services_place, namespace_asked, service_asked}
use Rattle.promises.specs.BySteps.{Ending, BySteps, Meets, Stops}
use Rattle.promises.specs.Resume.{AllIn, layouts_of, FirstLacking}

-- The questions about the element at a spot over lent octets, asked with what its step is given.
abbrev pub field_over : List ℕ → Lent → ℕ → Read Field
field_over s x n = field_asked s x.at x.rows x.octets x.used n

abbrev pub layout_over : List ℕ → Lent → Read Layout
layout_over s x = layout_asked s x.at x.rows x.octets x.used

abbrev pub attribute_over : List ℕ → Lent → ℕ → Read Attribute
attribute_over s x n = attribute_asked s x.at x.rows x.octets x.used n

-- A question about item n is answered by a list, for every n: item n of it, and behind the last 18 at a place.
abbrev pub Items : {A : Type 0} → (ℕ → Read A) → ℕ → List A → ℕ → Type 0
Items question place xs next = (n : ℕ) → question n ≡ nth n place xs next

-- What holds of each item of a list, by its index.
abbrev pub AtEach : {A : Type 0} → List A → (ℕ → A → Type 0) → Type 0
AtEach {A} xs P = (n : ℕ) (x : A) (rest : List A) → drop n xs ≡ x ∷ rest → P n x

-- A row: every field of it by type and value, name, and octets; 18 at the row behind the last. It is no layout.
pub record RowAnswered (s : List ℕ) (x : Lent) (r : Row) (next : ℕ) : Type 0 where
  pub field : Items (field_over s x) x.at r.fields next
  pub value : AtEach r.fields λ n f.
      field_tells (field_over s x n) ≡ Ok (record { kind = f.attribute.kind; value = value_of f.attribute.kind.basic f.value })
  pub name : AtEach r.fields λ n f. part_of (λ y. y.attribute.name) (field_over s x n) ≡ f.attribute.name
  pub held : AtEach r.fields λ n f. part_of (λ y. octets_of y.value) (field_over s x n) ≡ octets_of f.value
  pub behind : (n : ℕ) → length r.fields ≤ n → field_tells (field_over s x n) ≡ Err (record { number = 18; place = x.at })
  pub other : layout_over s x ≡ no 19 x.at

-- A layout: its type name, and every attribute of it by name and type; 18 at the layout behind the last. It is no row.
pub record LayoutAnswered (s : List ℕ) (x : Lent) (l : Layout) (next : ℕ) : Type 0 where
  pub type_name : part_of (λ y. y.type_name) (layout_over s x) ≡ l.type_name
  pub attribute : Items (attribute_over s x) x.at l.attributes next
  pub name : AtEach l.attributes λ n a. part_of (λ y. y.name) (attribute_over s x n) ≡ a.name
  pub kind : AtEach l.attributes λ n a. kind_tells (attribute_over s x n) ≡ Ok a.kind
  pub behind : (n : ℕ) → length l.attributes ≤ n → kind_tells (attribute_over s x n) ≡ Err (record { number = 18; place = x.at })
  pub other : (n : ℕ) → field_over s x n ≡ no 19 x.at

-- The end is neither.
pub record EndAnswered (s : List ℕ) (x : Lent) : Type 0 where
  pub no_row : (n : ℕ) → field_over s x n ≡ no 19 x.at
  pub no_layout : layout_over s x ≡ no 19 x.at

abbrev pub Answered : List ℕ → Lent → Element → ℕ → Type 0
Answered s x (item (row r)) next = RowAnswered s x r next
Answered s x (item (layout l)) next = LayoutAnswered s x l next
Answered s x (finish n t) next = EndAnswered s x

-- An accepted header: its numbers, its strings, and every item of both lists; behind the last 18 at the place where the list's count stands.
pub record HeaderAnswered (s : List ℕ) (h : Header) (next : ℕ) : Type 0 where
  pub numbers : head_tells (header_at s) ≡ Ok (record { start = signed 8 h.start; namespaces = length h.others; services = length h.services; next = next })
  pub recorder : part_of (λ x. x.recorder) (header_at s) ≡ h.recorder
  pub default : part_of (λ x. x.default) (header_at s) ≡ h.default
  pub id : part_of (λ x. x.id) (header_at s) ≡ h.id
  pub namespaces : number 4 s (namespaces_place h) ≡ ok (length h.others) (namespaces_place h + 4)
  pub namespace : Items (namespace_asked s) (namespaces_place h) h.others next
  pub uri : AtEach h.others λ n x. part_of (λ y. y.uri) (namespace_asked s n) ≡ x.uri
  pub short : AtEach h.others λ n x. part_of (λ y. y.short) (namespace_asked s n) ≡ x.short
  pub services : number 4 s (services_place h) ≡ ok (length h.services) (services_place h + 4)
  pub service : Items (service_asked s) (services_place h) h.services next
  pub definition : AtEach h.services λ n x. part_of (λ y. y) (service_asked s n) ≡ x

-- An element, asked with what its own step is given: what the steps over those before it have left. And each of some elements so.
pub record Asked (s : List ℕ) (x : Lent) (before : List Placed) (p : Placed) : Type 0 where
  pub meets : Meets s x before p
  pub answers : Answered s meets.given p.element meets.next

abbrev pub AllAsked : List ℕ → Lent → List Placed → Type 0
AllAsked s x elements = (before : List Placed) (p : Placed) (behind : List Placed) → elements ≡ before ++ p ∷ behind → Asked s x before p

-- Two askings are answered alike: every field, the layout, every attribute, and every refusal.
pub record SameAnswers (s : List ℕ) (x y : Lent) : Type 0 where
  pub field : (n : ℕ) → field_over s x n ≡ field_over s y n
  pub layout : layout_over s x ≡ layout_over s y
  pub attribute : (n : ℕ) → attribute_over s x n ≡ attribute_over s y n

-- Demand 2: what is promised of the questions along a first-octet reading over lent octets.
pub record FirstAsked (s octets : List ℕ) : Type 0 where
  -- The header.
  pub header : (h : Header) (next : ℕ) → header_at s ≡ ok h next → HeaderAnswered s h next
  -- Every element that the steps behind it meet, also where they are refused later on.
  pub met : (h : Header) (next : ℕ) → header_at s ≡ ok h next → (elements : List Placed) (e : Ending) → BySteps s (lent_at next 0 octets 0) elements e → AllAsked s (lent_at next 0 octets 0) elements
  -- So every element of an accepted document.
  pub all : (r : Reading) (end : ℕ) → reading s ≡ ok r end → (next : ℕ) × (header_at s ≡ ok r.header next) × AllAsked s (lent_at next 0 octets 0) r.elements

-- A row that lacks its layout, asked with what its own step is given: every field is refused by 12 at the number.
pub record LackingAsked (s : List ℕ) (x : Lent) (met : List Placed) (p : Placed) : Type 0 where
  pub stops : Stops s x met p.place 12 (p.place + 4)
  pub refused : (n : ℕ) → field_over s stops.given n ≡ no 12 (p.place + 4)

-- Demand 3: what is promised of the questions along the steps from an element of an accepted document on, told the rows before it, over lent octets that carry a book taken from it.
pub record ResumedAsked (s : List ℕ) (before : List Placed) (here : Placed) (behind : List Placed) (book : Book) (octets : List ℕ) (used : ℕ) : Type 0 where
  -- With at least every layout met before the element, every element of the first-octet reading from there on.
  pub same : AllIn (layouts_of before) book → AllAsked s (lent_at here.place (rows_of before) octets used) (here ∷ behind)
  -- With some lacking, every element up to the first row that names one, and that row is refused.
  pub lacks : (met : List Placed) (p : Placed) → FirstLacking book (here ∷ behind) met p
      → AllAsked s (lent_at here.place (rows_of before) octets used) met × LackingAsked s (lent_at here.place (rows_of before) octets used) met p
  -- With some lacking that no row names so, every element.
  pub unneeded : ((met : List Placed) (p : Placed) → FirstLacking book (here ∷ behind) met p → ⊥) → AllAsked s (lent_at here.place (rows_of before) octets used) (here ∷ behind)
  -- And each of them just as along the first-octet reading, over whatever octets that is lent.
  pub alike : (met : List Placed) (p : Placed) (lent : List ℕ) (first : ℕ) (m : Meets s (lent_at first 0 lent 0) (before ++ met) p)
      (k : Meets s (lent_at here.place (rows_of before) octets used) met p) → SameAnswers s m.given k.given
