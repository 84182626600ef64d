-- `headers::header_places` meets its contract: a header is refused where the first of its parts is, and else the places are where the parts were read.
-- Assumes nothing.
use Rattle.std.proofs.Common.{of_calls}
use native.Mathlib.Nat.{le_refl}
use lib.ListN.{length}
use Rattle.octets.proofs.Passed.{handed_on}
use Rattle.headers.proofs.Parts.{space_read, service_read, refused_recorder, refused_default, refused_namespaces, refused_services, refused_close, accepted}
use Rattle.headers.proofs.header_places.Goals as goal

pub returns-in_err-start : goal.returns-in_err-start
returns-in_err-start c =
    rw (handed_on c.from_residual.result _ c.from_residual.ensures.1) (refused_recorder c.args.s.now _ _ c.in_err-start.ensures.0)

pub returns-in_err-namespaces : goal.returns-in_err-namespaces
returns-in_err-namespaces c =
    let r = c.from_residual-in_err-namespaces in
    rw (handed_on r.result _ r.ensures.1) (refused_default c.args.s.now c.in_ok-start.start c.in_ok-start.ensures.0 _ _ c.in_err-namespaces.ensures.0)

pub returns-in_err-services : goal.returns-in_err-services
returns-in_err-services c =
    let r = c.from_residual-in_err-services in
    rw (handed_on r.result _ r.ensures.1)
    (refused_namespaces c.args.s.now c.in_ok-start.start c.in_ok-start.ensures.0 c.in_ok-namespaces.namespaces c.in_ok-namespaces.ensures.0 _ _ (c.in_err-services.ensures (length c.args.s.now) (space_read c.args.s.now) (le_refl (length c.args.s.now)) (record { takes = λ p h. search of_calls; finds = λ p r h e. search of_calls })).0)

pub returns-in_err-id : goal.returns-in_err-id
returns-in_err-id c =
    let r = c.from_residual-in_err-id in
    rw (handed_on r.result _ r.ensures.1)
    (refused_services c.args.s.now c.in_ok-start.start c.in_ok-start.ensures.0 c.in_ok-namespaces.namespaces c.in_ok-namespaces.ensures.0 c.in_ok-services.services (c.in_ok-services.ensures (length c.args.s.now) (space_read c.args.s.now) (le_refl (length c.args.s.now)) (record { takes = λ p h. search of_calls; finds = λ p r h e. search of_calls })).0 _ _ (c.in_err-id.ensures (length c.args.s.now) (service_read c.args.s.now) (le_refl (length c.args.s.now)) (record { takes = λ p h. search of_calls; finds = λ p r h e. search of_calls })).0)

pub returns-in_err-end : goal.returns-in_err-end
returns-in_err-end c =
    let r = c.from_residual-in_err-end in
    rw (handed_on r.result _ r.ensures.1)
    (refused_close c.args.s.now c.in_ok-start.start c.in_ok-start.ensures.0 c.in_ok-namespaces.namespaces c.in_ok-namespaces.ensures.0 c.in_ok-services.services (c.in_ok-services.ensures (length c.args.s.now) (space_read c.args.s.now) (le_refl (length c.args.s.now)) (record { takes = λ p h. search of_calls; finds = λ p r h e. search of_calls })).0 c.in_ok-id.id (c.in_ok-id.ensures (length c.args.s.now) (service_read c.args.s.now) (le_refl (length c.args.s.now)) (record { takes = λ p h. search of_calls; finds = λ p r h e. search of_calls })).0 _ _ c.in_err-end.ensures.0)

pub returns : goal.returns
returns c =
    accepted c.args.s.now c.in_ok-start.start c.in_ok-start.ensures.0 c.in_ok-namespaces.namespaces c.in_ok-namespaces.ensures.0 c.in_ok-services.services (c.in_ok-services.ensures (length c.args.s.now) (space_read c.args.s.now) (le_refl (length c.args.s.now)) (record { takes = λ p h. search of_calls; finds = λ p r h e. search of_calls })).0 c.in_ok-id.id (c.in_ok-id.ensures (length c.args.s.now) (service_read c.args.s.now) (le_refl (length c.args.s.now)) (record { takes = λ p h. search of_calls; finds = λ p r h e. search of_calls })).0 c.requires c.in_ok-end.end c.in_ok-end.ensures.0

pub list_end-requires : goal.list_end-requires
list_end-requires c =
    let n = length c.args.s.now in
    let within = c.in_ok-namespaces.ensures.1 in
    (within.1, c.requires, record { end = n; reading = space_read c.args.s.now; inside = le_refl n; finds = record { takes = λ p h. search of_calls; finds = λ p r h e. search of_calls } })

pub list_end-requires-2 : goal.list_end-requires-2
list_end-requires-2 c =
    let n = length c.args.s.now in
    let within = (c.in_ok-services.ensures (length c.args.s.now) (space_read c.args.s.now) (le_refl (length c.args.s.now)) (record { takes = λ p h. search of_calls; finds = λ p r h e. search of_calls })).1 in
    (within.1, c.requires, record { end = n; reading = service_read c.args.s.now; inside = le_refl n; finds = record { takes = λ p h. search of_calls; finds = λ p r h e. search of_calls } })

pub close_end-requires : goal.close_end-requires
close_end-requires c = let within = (c.in_ok-id.ensures (length c.args.s.now) (service_read c.args.s.now) (le_refl (length c.args.s.now)) (record { takes = λ p h. search of_calls; finds = λ p r h e. search of_calls })).1 in (within.1, c.requires)
