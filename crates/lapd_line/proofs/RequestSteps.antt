-- A request of a line: what its arms say as one refusal, and what the line makes of it.
use Rattle.lapd_line.proofs.Vocabulary.{◌≡◌, ℕ, Bool, true, false, List, [], ◌∷◌, ◌++◌, Option, Some, None, Result, IfErr, OnOk, refl, sym, ap, subst, ◌∙◌, cond, Refusal, Service, Owned, Store, Config, told, after, answer, unless_refused, unless_refused_told, Aim, of_aim, Row, first_that_holds, bad_tei, bad_tei_or_group, no_link, no_link_nor_group, wrong_state, too_long, queue_full}
use Rattle.lapd_line.proofs.Vocabulary.{unit_queue_full, pool_full, refusal, Request, Establish, Release, Data, Unit, Assign, Remove, Check, Disown, AskTei, VerifyTei, SetBusy, ClearBusy, Deactivate, Down, aim_of_request, always, asked_aim, at_requested, link_refusal, FrameLine, LinkLayer, BareReport, Serves, bare_shown, told_beside, answer_shown, told_shown, Leads, config_of, LayerStands}
use Rattle.lapd_line.proofs.Vocabulary.{IfErr-weaker}
use Rattle.model_line.specs.Event as line_event
use Rattle.model_line.specs.Line as machine
use Rattle.model_link.specs.Events as link
use Rattle.lapd_line.specs.Requests.{request_asked, request_linked}
use Rattle.lapd_line.specs.declared.requests.TeiRequest.{TeiRequest}
use Rattle.lapd_line.specs.declared.requests.TeiRequest.TheVariants as tei_request
use Rattle.lapd_line.proofs.LayerRequests.{establish_rows, release_rows, data_rows, set_busy_rows, clear_busy_rows}
use Rattle.lapd_line.proofs.LinkSteps.{on_ok}
use Rattle.lapd_line.proofs.LineSteps.{gone_on, leads_on}
use Rattle.lapd_line.proofs.Silent.{request_silent, silent_told}

-- a request that is this one is refused, or granted, as this one
module _ {X : Type 0} (e : LinkLayer) (s : Store) (full : Bool) {r this : Request} (is : r ≡ this) {f : machine.Line → Option Refusal}
    (same : (m : machine.Line) → refusal e.config full this m ≡ f m) (result : Result X Refusal) where
  pub refused_as : IfErr result (λ why. (others : List Owned) (m : machine.Line) → LayerStands e s others m → f m ≡ Some why)
      → IfErr result (λ why. (others : List Owned) (m : machine.Line) → LayerStands e s others m → refusal e.config full r m ≡ Some why)
  refused_as h = IfErr-weaker result _ _ (λ why k. λ others m st. ap (λ x. refusal e.config full x m) is ∙ same m ∙ k others m st) h

  pub granted_as : OnOk result ((others : List Owned) (m : machine.Line) → LayerStands e s others m → f m ≡ None)
      → OnOk result ((others : List Owned) (m : machine.Line) → LayerStands e s others m → refusal e.config full r m ≡ None)
  granted_as h = on_ok result (λ k. λ others m st. ap (λ x. refusal e.config full x m) is ∙ same m ∙ k others m st) h

-- and what is done for its aim is done for the request
pub aimed_as : (r : Request) {aim : machine.Line → Aim} (e : LinkLayer) (s : Store) (new : LinkLayer) (t : Store) (o : BareReport) {A E : Type 0} (result : Result A E) → aim_of_request r ≡ aim
    → OnOk result (Serves aim [] e s new t o) → OnOk result (Serves (aim_of_request r) [] e s new t o)
aimed_as r e s new t o result is h = subst (λ x. OnOk result (Serves x [] e s new t o)) (sym is) h

-- what is asked of a link is refused by the rows of a link, and is at it
pub link_rows : (c : Config) (full : Bool) (service : Service) (tei : ℕ) (request : link.Request) (m : machine.Line)
    → refusal c full (request_linked service tei request) m ≡ link_refusal c full service tei request m
link_rows c full service tei link.Establish m = establish_rows c full service tei m
link_rows c full service tei link.Release m = release_rows c full service tei m
link_rows c full service tei (link.Data contents) m = data_rows c full service tei m contents
link_rows c full service tei link.SetBusy m = set_busy_rows c full service tei m
link_rows c full service tei link.ClearBusy m = clear_busy_rows c full service tei m

pub link_aim : (service : Service) (tei : ℕ) (request : link.Request) → aim_of_request (request_linked service tei request) ≡ (λ m. at_requested service tei request (machine.place_in m tei))
link_aim service tei link.Establish = refl
link_aim service tei link.Release = refl
link_aim service tei (link.Data contents) = refl
link_aim service tei link.SetBusy = refl
link_aim service tei link.ClearBusy = refl

-- what is asked of TEI management needs no room, and is its event
pub management_rows : (c : Config) (full : Bool) (asked : TeiRequest) (tei : ℕ) (m : machine.Line) → refusal c full (request_asked asked tei) m ≡ refusal c false (request_asked asked tei) m
management_rows c full tei_request.Assign tei m = refl
management_rows c full tei_request.Remove tei m = refl
management_rows c full tei_request.Check tei m = refl
management_rows c full tei_request.Disown tei m = refl
management_rows c full tei_request.Ask tei m = refl
management_rows c full tei_request.Verify tei m = refl

pub management_aim : (asked : TeiRequest) (tei : ℕ) → aim_of_request (request_asked asked tei) ≡ always (asked_aim asked tei)
management_aim tei_request.Assign tei = refl
management_aim tei_request.Remove tei = refl
management_aim tei_request.Check tei = refl
management_aim tei_request.Disown tei = refl
management_aim tei_request.Ask tei = refl
management_aim tei_request.Verify tei = refl

-- where the pool is the last reason and no row holds, none holds with room
last_row : (rows : List Row) (full : Bool) → first_that_holds (rows ++ pool_full full ∷ []) ≡ None → first_that_holds (rows ++ pool_full false ∷ []) ≡ None
last_row [] full e = refl
last_row (row ∷ rows) full e = go row.holds (last_row rows full) e
  where
    go : {x y : Option Refusal} (b : Bool) → (x ≡ None → y ≡ None) → cond b (Some row.why) x ≡ None → cond b (Some row.why) y ≡ None
    go true f e = e
    go false f e = f e

-- what is granted, whether the pool is full or not, is granted with room
pub with_room : (c : Config) (full : Bool) (r : Request) (l : machine.Line) → refusal c full r l ≡ None → refusal c false r l ≡ None
with_room c full (Establish service tei) l e = e
with_room c full (Release service tei) l e = e
with_room c full (Data service tei contents) l e =
    last_row (bad_tei tei ∷ no_link tei l ∷ wrong_state c service tei (link.Data contents) l ∷ too_long c contents ∷ queue_full c service tei l ∷ []) full e
with_room c full (Unit service tei contents) l e = last_row (bad_tei_or_group c tei ∷ no_link_nor_group tei l ∷ too_long c contents ∷ unit_queue_full c l ∷ []) full e
with_room c full (Assign tei) l e = e
with_room c full (Remove tei) l e = e
with_room c full (Check tei) l e = e
with_room c full (Disown tei) l e = e
with_room c full AskTei l e = e
with_room c full (VerifyTei tei) l e = e
with_room c full (SetBusy service tei) l e = e
with_room c full (ClearBusy service tei) l e = e
with_room c full (Deactivate service tei) l e = e
with_room c full Down l e = e

-- the entities tell what the machine answers to a request that is granted
pub request_told : {e new : LinkLayer} {s t : Store} {o : BareReport} (full : Bool) (r : Request)
    → ((others : List Owned) (m : machine.Line) → LayerStands e s others m → refusal e.config full r m ≡ None) → Serves (aim_of_request r) [] e s new t o
    → (others : List Owned) (m : machine.Line) → LayerStands e s others m → told (told_beside None o) ≡ answer e.config (line_event.request r) m
unfolding answer
request_told {e} {o = o} full r granted served others m st =
    ap told (silent_told o (served.told others m st) (request_silent e.config m r))
    ∙ ap (λ why. unless_refused_told why (of_aim e.config (unless_refused why (aim_of_request r m)) m)) (sym (with_room e.config full r m (granted others m st)))

-- and the line goes on
pub requested : {old new : FrameLine} {s : Store} {e : LinkLayer} {t : Store} {o : BareReport} (full : Bool) (r : Request)
    → ((others : List Owned) (m : machine.Line) → LayerStands old.layer s others m → refusal (config_of old) full r m ≡ None)
    → Serves (aim_of_request r) [] old.layer s e t o → new ≡ gone_on old e (bare_shown o) → Leads (line_event.request r) old s new t
unfolding after answer
requested {old} {s = s} {e} {t} {o} full r granted served is =
    let c = config_of old in
    leads_on {event = line_event.request r} (bare_shown o) served.config served.limits
    (λ others m st.
    subst (λ why. LayerStands e t others (of_aim c (unless_refused why (aim_of_request r m)) m).line) (sym (with_room c full r m (granted others m st.layer)))
    (served.stands others m st.layer))
    (λ others m st.
    ap (λ why. answer_shown c.side (unless_refused_told why (of_aim c (unless_refused why (aim_of_request r m)) m))) (with_room c full r m (granted others m st.layer))
    ∙ ap (λ x. told_shown x.notes x.cause x.lost) (sym (served.told others m st.layer)))
    is
