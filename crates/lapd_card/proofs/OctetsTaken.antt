-- A list of events at a card of octets, one by one, and what is counted of it.
use Rattle.lapd_card.proofs.Vocabulary.{◌≡◌, List, [], ◌∷◌, ◌++◌, sym, ap, ◌∙◌, refl, flat_map, flat_map-append, append-nil, fold-append, Counters, moment_counted, all_counted, OctetCard}
use Rattle.model_card.specs.Run as runs
use Rattle.model_card.specs.ports.Card.{after, answer}
use Rattle.model_card.specs.ports.Codec.{meant_in}
use Rattle.model_card.specs.ports.Event.{Event}
use Rattle.model_card.specs.ports.Run.{Moment, run, one_more}
unfoldable use Rattle.model_card.specs.ports.Run.{after_all, moments, meant_all}
use Rattle.model_card.proofs.OfPorts.Codec.{refines}
use Rattle.model_card.proofs.OfPorts.Fold.{run_is_moments}
use Rattle.lapd_card.specs.Stands.{meaning_counted}

pub octets-more : (m : OctetCard) (es : List Event) (e : Event) → run m (es ++ e ∷ []) ≡ one_more (run m es) e
octets-more m es e = fold-append one_more (record { card = m; replies = [] }) es (e ∷ [])

abbrev moment_at : OctetCard → Event → Moment
moment_at m e = record { card = m; event = e; answer = answer e m }

moments-more : (m : OctetCard) (es : List Event) (e : Event) → moments m (es ++ e ∷ []) ≡ moments m es ++ moment_at (after_all m es) e ∷ []
unfolding moments after_all
moments-more m [] e = refl
moments-more m (x ∷ es) e = ap (λ ms. moment_at m x ∷ ms) (moments-more (after x m) es e)

-- what the events of a run mean is counted, one by one
pub meanings-count : (all : List Counters) (m : OctetCard) (es : List Event) (e : Event)
    → all_counted all (runs.moments m.card (meant_all m (es ++ e ∷ []))) ≡ meaning_counted (all_counted all (runs.moments m.card (meant_all m es))) (run m es).card e
meanings-count all m es e =
    let last = moment_at (after_all m es) e in
    ap (all_counted all) (sym (refines m (es ++ e ∷ [])).moments)
    ∙ ap (λ ms. all_counted all (flat_map meant_in ms)) (moments-more m es e)
    ∙ ap (all_counted all) (flat_map-append meant_in (moments m es) (last ∷ []))
    ∙ fold-append moment_counted all (flat_map meant_in (moments m es)) (flat_map meant_in (last ∷ []))
    ∙ ap (λ ms. all_counted (all_counted all ms) (flat_map meant_in (last ∷ []))) (refines m es).moments
    ∙ ap (all_counted (all_counted all (runs.moments m.card (meant_all m es)))) (append-nil (meant_in last))
    ∙ ap (λ card. meaning_counted (all_counted all (runs.moments m.card (meant_all m es))) card e) (sym (run_is_moments.card m es))
