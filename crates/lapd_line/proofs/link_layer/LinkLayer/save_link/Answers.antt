-- Hand-written answers for `LinkLayer::save_link`.
use Rattle.lapd_line.proofs.Vocabulary.{ap, sym, not, ◌∙◌, get_or, None, place_at, link_at, terms, service_at}
use Rattle.lapd_line.proofs.LayerSteps.{beside_links, link_within, links_part, links_standing}
use Rattle.lapd_line.proofs.LinkSteps.{in_vec, of_part, part, part_stands}
use Rattle.lapd_link.specs.Image.{IsSaved}
use Rattle.model_link.specs.Timed.{IsTimed}
use Rattle.lapd_line.proofs.SavedSteps.{link_put, nothing_put, none_there}
use Rattle.lapd_line.proofs.SavedWhole.{free_saved, link_saved}
use Rattle.lapd_line.proofs.link_layer.LinkLayer.save_link.Goals as goal

pub index-requires : goal.index-requires
index-requires g c = in_vec c.args.self.now.links (link_within c.requires.stands c.requires.few)

pub save-requires-clause-stands : goal.save-requires-clause-stands
save-requires-clause-stands g c = part_stands (link_within c.requires.stands c.requires.few) c.index.ensures (links_standing c.requires.stands)

pub save-requires-clause-within : goal.save-requires-clause-within
save-requires-clause-within g c = c.requires.within

pub returns-then-is_none-clause-puts : goal.returns-then-is_none-clause-puts
returns-then-is_none-clause-puts g c = λ others m st.
    nothing_put _ (link_at c.args.number m) (c.tei_at.ensures ∙ ap (λ t. get_or t.places (place_at c.args.number) None) (sym st.management)) (c.is_none.ensures ∙ ap not c.if-is_none.true) c.requires.within

pub returns-then-is_none-clause-saved : goal.returns-then-is_none-clause-saved
returns-then-is_none-clause-saved g c = λ others m st timed.
    free_saved m c.args.number st c.requires.few (none_there _ (c.tei_at.ensures ∙ ap (λ t. get_or t.places (place_at c.args.number) None) (sym st.management)) (c.is_none.ensures ∙ ap not c.if-is_none.true))

pub returns-clause-puts : goal.returns-clause-puts
returns-clause-puts g c = λ others m st.
    let e = c.args.self.now in
    let s = g.S.Shelf.store c.args.shelf.now in
    link_put (c.tei_at.ensures ∙ ap (λ t. get_or t.places (place_at c.args.number) None) (sym st.management)) (link_at c.args.number m) (c.is_none.ensures ∙ ap not c.if-is_none.false)
    (let taken = part (link_within c.requires.stands c.requires.few) c.index.ensures e.config (beside_links e m others) m.links (links_part e s others m st) in
    c.save.ensures.puts taken.rest (link_at c.args.number m) taken.stands)

pub returns-clause-saved : goal.returns-clause-saved
returns-clause-saved g c = λ others m st timed.
    let e = c.args.self.now in
    let s = g.S.Shelf.store c.args.shelf.now in
    link_saved e.config c.args.number (link_at c.args.number m) (c.tei_at.ensures ∙ ap (λ t. get_or t.places (place_at c.args.number) None) (sym st.management)) (c.is_none.ensures ∙ ap not c.if-is_none.false)
    (λ tei at. of_part (link_within c.requires.stands c.requires.few) c.index.ensures (λ t l. IsTimed l → IsSaved t l) c.save.ensures.saved e.config (terms e.config (service_at c.args.number) tei) (beside_links e m others) m.links (st.terms c.args.number tei c.requires.few at) (links_part e s others m st) timed)
