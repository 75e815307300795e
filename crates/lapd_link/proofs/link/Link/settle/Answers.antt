-- Hand-written answers for `Link::settle`.
use Rattle.lapd_link.proofs.Vocabulary.{◌≤◌, ℕ, List, drop, refl, sym, ap, subst, ◌∙◌, Option, LinkTimer, Order, orders_for, starts, one-start, BareReport, Keeps, rests-after}
use Rattle.std.specs.Prelude.{min}
use Rattle.lapd_link_steps.specs.Reports.{counting}
use Rattle.lapd_link.proofs.Ending.{told_settled}
use Rattle.lapd_link.proofs.link.Link.settle.Goals as goal

pub returns-clause-reaches : goal.returns-clause-reaches
returns-clause-reaches g c = λ info messages others m course kept before agrees.
    let terms = c.args.self.now.terms in
    let report = c.args.report.now in
    record {
      rests = rests-after agrees;
      kept = subst (λ (left : List (List ℕ)). Keeps (g.S.Shelf.store c.release_oldest.new.shelf) c.release_oldest.new.self.slots left others)
          (ap (λ (n : ℕ). drop n messages) (c.from.ensures ∙ ap (λ (r : BareReport). r.released) c.count_given_up.ensures) ∙ agrees.fits.queue)
          (c.release_oldest.ensures.kept messages others kept);
      told = told_settled m report c.count_given_up.new.self (record c.count_given_up.new.self { orders = c.put_orders.new.list }) agrees
          (c.count_given_up.ensures ∙ ap (λ (n : ℕ). counting terms.service (min n 127) report) (c.len.ensures.count ∙ kept.lengths)) refl
          (c.put_orders.ensures ∙ ap (λ (b : Option LinkTimer). orders_for terms b report.started c.running-after.result) before
          ∙ ap (λ (x : Option LinkTimer). orders_for terms m.running report.started x) c.running-after.ensures);
      cause = ap (λ (r : BareReport). r.cause) c.count_given_up.ensures ∙ agrees.fits.cause;
    }

pub returns-clause-starts : goal.returns-clause-starts
returns-clause-starts g c = subst (λ (orders : List Order). starts orders ≤ 1) (sym c.put_orders.ensures) (one-start c.args.self.now.terms c.args.before c.args.report.now.started c.running-after.result)
