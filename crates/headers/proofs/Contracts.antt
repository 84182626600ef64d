-- The contracts of headers themselves: each allows one answer. Assumes nothing.
use denote.RattleType.{RattleType}
use denote.Param.Laws.{Laws}
use mir.Syntax.{Dict}
use Prim.Native.Nat.{ℕ, ◌+◌}
use mathlib.Core.Path.{◌≡◌, refl, sym, ap, ◌∙◌, subst}
use mathlib.Core.List.{List}
use lib.ListN.{length}
use Rattle.octets.specs.Reading.{Read, ok, run}
use Rattle.octets.specs.OfContracts.{Once, Settled}
use Rattle.octets.proofs.Inverse.{ok_value, ok_place, no_ok}
use Rattle.octets.specs.declared.Refused.{Refused}
use Rattle.octets.proofs.Contracts.{says_once, refused_once}
use Rattle.std.specs.Prelude.{Result, Ok, Err}
use Rattle.texts.specs.Texts.{text}
use Rattle.headers.specs.Header.{Header, namespace_at}
use Rattle.headers.specs.Answers.{Located, Locates}
use Rattle.headers.specs.declared.Places.{Places}
use Rattle.headers.specs.contracts.list_end.F-Fn.{Ghosts}
use Rattle.headers.proofs.list_end as list_end
use Rattle.headers.proofs.namespace_end as namespace_end
use Rattle.headers.proofs.header_at as header_at

pub record Contracts : Type 0 where
  pub of_namespace_end : Once namespace_end.Kinds.ps namespace_end.Kinds.r namespace_end.Reads.Pre namespace_end.Reads.Post
  pub of_header_at : Settled header_at.Kinds.ps header_at.Kinds.r header_at.Reads.Pre header_at.Reads.Post

-- The places of one header's fields are settled, one after another.
located_once : (s : List ℕ) (h : Header) (p q : Places) → p.end ≡ q.end → Located s h p → Located s h q → p ≡ q
located_once s h p q end e f =
    let start : p.start ≡ q.start = ok_place e.recorder f.recorder in
    let namespaces : p.namespaces ≡ q.namespaces =
    ok_place e.default (subst (λ (k : ℕ). text s (k + 8) ≡ ok h.default q.namespaces) (sym start) f.default) in
    let services : p.services ≡ q.services =
    ok_place e.others (subst (λ (k : ℕ). run (namespace_at s) (length h.others) (k + 4) ≡ ok h.others q.services) (sym namespaces) f.others) in
    let id : p.id ≡ q.id =
    ok_place e.services (subst (λ (k : ℕ). run (text s) (length h.services) (k + 4) ≡ ok h.services q.id) (sym services) f.services) in
    λ i. record { start = start i; namespaces = namespaces i; services = services i; id = id i; end = end i }

locates_once : (s : List ℕ) (read : Read Header) (x y : Result Places Refused) → Locates s read x → Locates s read y → x ≡ y
locates_once s read (Ok p) (Ok q) e f =
    let header : e.header ≡ f.header = ok_value e.reads f.reads in
    ap Ok (located_once s f.header p q (ok_place e.reads f.reads) (subst (λ (h : Header). Located s h p) header e.located) f.located)
locates_once s read (Ok p) (Err r) e f = absurd (no_ok f e.reads)
locates_once s read (Err r) (Ok q) e f = absurd (no_ok e f.reads)
locates_once s read (Err r) (Err q) e f = ap Err (refused_once r q (cc) (cc))

pub contracts : Contracts
contracts =
    record {
      of_namespace_end = λ κs a p x y u v e f. (says_once x y (e.0 ∙ sym f.0), refl);
      of_header_at = (λ κs a. tt, λ κs a p x y u v e f. (locates_once _ _ x y e f, refl));
    }

-- That of `list_end`, whatever is passed to find the end of one thing.
pub of_list_end : (t : RattleType) (laws : Laws t) (g : Ghosts t) (a b c d : Dict) → Once (list_end.Kinds.ps t laws) (list_end.Kinds.r t laws) (list_end.Reads.Pre t laws g a b c d) (list_end.Reads.Post t laws g a b c d)
of_list_end t laws g a b c d κs s (lives, p) x y u v e f =
    let w = p.2 in
    (says_once x y ((e w.end w.reading w.inside w.finds).0 ∙ sym (f w.end w.reading w.inside w.finds).0), refl)
