-- The questions about the header: what of it is asked for, with the refusals that come before the answer.
use Rattle.std.specs.Prelude.{ℕ, ◌+◌, List, length}
use Rattle.octets.specs.Reading.{Read, ◌then◌}
use Rattle.octets.specs.Writing.{images}
use Rattle.headers.specs.Header.{Namespace, Header, header_at, namespace_image}
use Rattle.octets.specs.Asked.{nth}
use Rattle.texts.specs.Texts.{led_image}

-- Where the counts of a header's two lists stand: other namespaces behind the version, the recorder, the start time and the default namespace; service definitions behind those.
unfoldable pub namespaces_place : Header → ℕ
namespaces_place h = 4 + length (led_image h.recorder) + 8 + length (led_image h.default)

unfoldable pub services_place : Header → ℕ
services_place h = namespaces_place h + 4 + length (images namespace_image h.others)

-- Namespace n, whose URI and short name are asked, and service definition n; 18 at the list's count.
unfoldable pub namespace_asked : List ℕ → ℕ → Read Namespace
namespace_asked s n = header_at s then λ h next. nth n (namespaces_place h) h.others next

unfoldable pub service_asked : List ℕ → ℕ → Read (List ℕ)
service_asked s n = header_at s then λ h next. nth n (services_place h) h.services next
