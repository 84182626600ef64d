-- The header: version, recorder, start time, namespaces, service definitions, document id, and the four octets FF.
use Rattle.std.specs.Prelude.{ℕ, ◌+◌, ◌^◌, ◌<◌, ◌≤◌, ◌≡◌, List, ◌++◌, length, leb}
use Rattle.octets.specs.Limits.{longest, most_listed}
use Rattle.octets.specs.Reading.{Read, ok, no, ◌then◌, choose, part, number, count, exactly, run}
use Rattle.octets.specs.Writing.{word, images, Each, Octet}
use Rattle.texts.specs.Texts.{text, led_image, GoodText}

pub record Namespace : Type 0 where
  pub uri : List ℕ
  pub short : List ℕ

-- What the header means. The version and the four octets FF are always the same and are no part of it; the start time is kept as its 64 bits.
pub record Header : Type 0 where
  pub recorder : List ℕ
  pub start : ℕ
  pub default : List ℕ
  pub others : List Namespace
  pub services : List (List ℕ)
  pub id : List ℕ

-- One of the other namespaces: a URI string, then a short-name string.
unfoldable pub namespace_at : List ℕ → ℕ → Read Namespace
namespace_at s at = text s at then λ uri next. text s next then λ short end. ok (record { uri = uri; short = short }) end

-- The document id: a length of 16, else 5 at that length, and 16 octets.
unfoldable pub id_at : List ℕ → ℕ → Read (List ℕ)
id_at s at =
    exactly 16 5 s at then λ _ next.
    choose (leb (next + 16) (length s)) (λ _. ok (part s next 16) (next + 16)) (λ _. no 1 at)

-- The header from a place on: 3 where the version is not 4, counts of at most 16, 6 where the four octets behind it are not FF.
unfoldable pub header_from : List ℕ → ℕ → Read Header
header_from s at =
    exactly 4 3 s at then λ _ a.
    text s a then λ recorder b.
    number 8 s b then λ start c.
    text s c then λ default d.
    count most_listed s d then λ k e.
    run (namespace_at s) k e then λ others f.
    count most_listed s f then λ m g.
    run (text s) m g then λ services h.
    id_at s h then λ id i.
    exactly 0xffffffff 6 s i then λ _ end.
    ok (record { recorder = recorder; start = start; default = default; others = others; services = services; id = id }) end

-- A document is not too long, else 2 before all; its header stands at 0.
unfoldable pub header_at : List ℕ → Read Header
header_at s = choose (leb (length s) longest) (λ _. header_from s 0) (λ _. no 2 0)

unfoldable pub namespace_image : Namespace → List ℕ
namespace_image n = led_image n.uri ++ led_image n.short

unfoldable pub header_image : Header → List ℕ
header_image h =
    word 4 4 ++ led_image h.recorder ++ word 8 h.start ++ led_image h.default
    ++ word 4 (length h.others) ++ images namespace_image h.others
    ++ word 4 (length h.services) ++ images led_image h.services
    ++ word 4 16 ++ h.id ++ word 4 0xffffffff

pub record GoodNamespace (n : Namespace) : Type 0 where
  pub uri : GoodText n.uri
  pub short : GoodText n.short

-- A header inside the limits: at most 16 other namespaces and 16 service definitions, an id of 16 octets.
pub record GoodHeader (h : Header) : Type 0 where
  pub recorder : GoodText h.recorder
  pub start : h.start < 2 ^ 64
  pub default : GoodText h.default
  pub few_others : length h.others ≤ most_listed
  pub others : Each GoodNamespace h.others
  pub few_services : length h.services ≤ most_listed
  pub services : Each GoodText h.services
  pub id_length : length h.id ≡ 16
  pub id : Each Octet h.id
