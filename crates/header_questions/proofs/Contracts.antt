-- The contracts of the questions about the header themselves: every document is taken, and each allows one answer; of a part handed back, one content. Assumes nothing.
use denote.RattleType.{RattleType}
use denote.Param.Laws.{Laws}
use mir.Syntax.{Dict}
use mathlib.Core.Path.{refl, sym, ◌∙◌}
use Rattle.octets.specs.OfContracts.{Once, Settled, SettledSeen}
use Rattle.octets.proofs.Contracts.{says_once}
use Rattle.header_questions.specs.contracts.listed_at.F-Fn.{Ghosts}
use Rattle.header_questions.proofs.listed_at as listed_at
use Rattle.header_questions.proofs.header_refusal as header_refusal
use Rattle.header_questions.proofs.namespace_refusal as namespace_refusal
use Rattle.header_questions.proofs.service_refusal as service_refusal
use Rattle.header_questions.proofs.recorder as recorder
use Rattle.header_questions.proofs.default_namespace as default_namespace
use Rattle.header_questions.proofs.namespace_uri as namespace_uri
use Rattle.header_questions.proofs.namespace_short as namespace_short
use Rattle.header_questions.proofs.service as service
use Rattle.header_questions.proofs.document_id as document_id

pub record Contracts : Type 0 where
  pub of_header_refusal : Settled header_refusal.Kinds.ps header_refusal.Kinds.r header_refusal.Reads.Pre header_refusal.Reads.Post
  pub of_namespace_refusal : Settled namespace_refusal.Kinds.ps namespace_refusal.Kinds.r namespace_refusal.Reads.Pre namespace_refusal.Reads.Post
  pub of_service_refusal : Settled service_refusal.Kinds.ps service_refusal.Kinds.r service_refusal.Reads.Pre service_refusal.Reads.Post
  pub of_recorder : SettledSeen recorder.Kinds.ps recorder.Kinds.r (λ κs x. x.now) recorder.Reads.Pre recorder.Reads.Post
  pub of_default_namespace : SettledSeen default_namespace.Kinds.ps default_namespace.Kinds.r (λ κs x. x.now) default_namespace.Reads.Pre default_namespace.Reads.Post
  pub of_namespace_uri : SettledSeen namespace_uri.Kinds.ps namespace_uri.Kinds.r (λ κs x. x.now) namespace_uri.Reads.Pre namespace_uri.Reads.Post
  pub of_namespace_short : SettledSeen namespace_short.Kinds.ps namespace_short.Kinds.r (λ κs x. x.now) namespace_short.Reads.Pre namespace_short.Reads.Post
  pub of_service : SettledSeen service.Kinds.ps service.Kinds.r (λ κs x. x.now) service.Reads.Pre service.Reads.Post
  pub of_document_id : SettledSeen document_id.Kinds.ps document_id.Kinds.r (λ κs x. x.now) document_id.Reads.Pre document_id.Reads.Post

pub contracts : Contracts
contracts =
    record {
      of_header_refusal = (λ κs a. tt, λ κs a p x y u v e f. (e ∙ sym f, refl));
      of_namespace_refusal = (λ κs a. tt, λ κs a p x y u v e f. (e ∙ sym f, refl));
      of_service_refusal = (λ κs a. tt, λ κs a p x y u v e f. (e ∙ sym f, refl));
      of_recorder = (λ κs a. tt, λ κs a p x y u v e f. (e ∙ sym f, refl));
      of_default_namespace = (λ κs a. tt, λ κs a p x y u v e f. (e ∙ sym f, refl));
      of_namespace_uri = (λ κs a. tt, λ κs a p x y u v e f. (e ∙ sym f, refl));
      of_namespace_short = (λ κs a. tt, λ κs a p x y u v e f. (e ∙ sym f, refl));
      of_service = (λ κs a. tt, λ κs a p x y u v e f. (e ∙ sym f, refl));
      of_document_id = (λ κs a. tt, λ κs a p x y u v e f. (e ∙ sym f, refl));
    }

-- That of `listed_at`, whatever is passed to find the end of one thing.
pub of_listed_at : (t : RattleType) (laws : Laws t) (g : Ghosts t) (a b c d : Dict) → Once (listed_at.Kinds.ps t laws) (listed_at.Kinds.r t laws) (listed_at.Reads.Pre t laws g a b c d) (listed_at.Reads.Post t laws g a b c d)
of_listed_at t laws g a b c d κs s (lives, p) x y u v e f =
    let w = p.2 in
    (says_once x y ((e w.end w.reading w.inside w.finds) ∙ sym (f w.end w.reading w.inside w.finds)), refl)
