-- One place changes, and which leads in its line.
use Rattle.std.proofs.Common.{◌∙◌, ◌*◌, refl, ap, subst}
use Rattle.lapd_clock.specs.Bounds.{IsLead}
use Rattle.lapd_clock.specs.OwnPlaces.{with_timer}
use Rattle.lapd_clock.proofs.Keeping.{of-line, in-places, its-lead, used-within, lead-within, kept-after}
use Rattle.lapd_clock.proofs.Standing.{changed_is, there}
use Rattle.lapd_clock.proofs.moments.Moments.start.Goals as goal

pub lead_after-least-requires-clause-used : goal.lead_after-least-requires-clause-used
lead_after-least-requires-clause-used c =
    let within = there c.args.place c.self.inside.places.items c.args.self.now c.self.view_is c.requires.place in
    used-within c.self.inside.not_before c.self.inside.found c.self.inside.each c.args.place c.self.inside.bounds.items c.self.inside.leads.items c.self.inside.places.items c.index_mut-its.result.now c.self.invariant within c.index_mut-its.ensures.value
    c.index.result.now c.index-2.result.now c.deref.result.now _ c.index.ensures c.index-2.ensures c.deref.ensures.value

pub lead_after-least-requires-clause-there : goal.lead_after-least-requires-clause-there
lead_after-least-requires-clause-there c =
    let within = there c.args.place c.self.inside.places.items c.args.self.now c.self.view_is c.requires.place in
    lead-within c.self.inside.not_before c.self.inside.found c.self.inside.each c.args.place c.self.inside.bounds.items c.self.inside.leads.items c.self.inside.places.items c.index_mut-its.result.now c.self.invariant within c.index_mut-its.ensures.value
    c.index.result.now c.index-2.result.now c.deref.result.now _ c.index.ensures c.index-2.ensures c.deref.ensures.value

pub invariant_of-self : goal.invariant_of-self
invariant_of-self c =
    let within = there c.args.place c.self.inside.places.items c.args.self.now c.self.view_is c.requires.place in
    let nb = c.self.inside.not_before in
    let found = c.self.inside.found in
    let each = c.self.inside.each in
    let bounds = c.self.inside.bounds.items in
    let leads = c.self.inside.leads.items in
    let ps = c.self.inside.places.items in
    let u = c.index_mut-its.result.now in
    let at_it = c.index_mut-its.ensures.value in
    kept-after nb found each c.args.place bounds leads ps u c.self.invariant within at_it c.put_sooner.new.not_before c.put_sooner.new.found c.lead_after-least.result.0 c.lead_after-least.result.1 _ refl c.put_sooner.ensures
    (subst (λ xs. IsLead (u.line * each) each c.lead_after-least.result.0 c.lead_after-least.result.1 xs) c.deref.ensures.value
    (c.lead_after-least.ensures each ps _
    (its-lead nb found each c.args.place bounds leads ps u c.self.invariant within at_it c.index.result.now c.index-2.result.now c.index.ensures c.index-2.ensures)
    (of-line nb found each c.args.place bounds leads ps u c.self.invariant within at_it).high
    (in-places nb found each c.args.place bounds leads ps u c.self.invariant within at_it) refl c.deref.ensures.value))

pub returns : goal.returns
returns c =
    record {
      after = changed_is c.self.inside.places.items c.args.place c.index_mut-its.result.now c.args.timer c.args.moment (there c.args.place c.self.inside.places.items c.args.self.now c.self.view_is c.requires.place) c.index_mut-its.ensures.value
          ∙ ap (with_timer c.args.place c.args.timer c.args.moment) c.self.view_is;
    }
