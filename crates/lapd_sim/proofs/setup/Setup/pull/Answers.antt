-- Hand-written answers for `Setup::pull`.
use Rattle.lapd_sim.proofs.Vocabulary.{scene, ◌≡◌, ◌<◌, ◌++◌, [], length, take, sym, refl, subst, arith, length-take, Puts, on, taken_at, after_pull, pulls, pulled_text, SetupStands, Hears, Config}
use Rattle.lapd_sim.proofs.Eachs.{each_at, each_set}
use Rattle.lapd_sim.proofs.Scenes.{there_octets, obeyed, tells, when_ok}
use Rattle.lapd_sim.proofs.setup.Setup.pull.Goals as goal

pub returns : goal.returns
returns g c = λ m h.
    let line = c.in_ok-number.number in
    let count : length (take c.args.count c.args.room.now) ≡ c.args.count = omega (arith, length-take c.args.count c.args.room.now, c.requires) in
    let p = pulls c.args.count line (record { setup = m; octets = [] }) in
    let octets = subst (λ n. c.pull_all.new.room ≡ (pulls n line (record { setup = m; octets = [] })).octets) count (c.pull_all.ensures.pulled m h) in
    let stands = subst (λ n. SetupStands c.pull_all.new.self (pulls n line (record { setup = m; octets = [] })).setup) count (c.pull_all.ensures.after m h) in
    let there : line < c.pull_all.new.self.config.lines = subst (λ (d : Config). line < d.lines) (sym c.pull_all.ensures.config) c.in_ok-number.ensures.1 in
    let bound : line < length c.pull_all.new.self.listeners.items = omega (arith, c.pull_all.new.self.listeners.ok.0, c.pull_all.new.self.each_listens, there) in
    let past = subst (λ d. Hears d (taken_at line p.setup)) (sym c.index_mut.ensures.value) (each_at Hears c.pull_all.new.self.listeners.items p.setup.taken line c.index_mut.result.now [] bound stands.listeners) in
    obeyed c.tell.result _ c.written.ensures _ _ (SetupStands _) _ _
    (there_octets c.args.self.now m h c.in_ok-number.ensures.0 c.in_ok-number.ensures.1 (λ n. after_pull n c.args.count) c.in_ok-for_octets.ensures)
    (tells c.tell.result _ _ (SetupStands _) _ (after_pull line c.args.count (scene m)) refl
    (subst (λ n. Puts c.tell.result (on g.T.Target.taken c.args.page.now) (on g.T.Target.taken c.tell.new.self) (pulled_text n (taken_at line p.setup) p.octets)) (sym c.in_ok-number.ensures.0)
    (subst (λ xs. Puts c.tell.result (on g.T.Target.taken c.args.page.now) (on g.T.Target.taken c.tell.new.self) (pulled_text c.args.line (taken_at line p.setup) xs)) octets (c.tell.ensures.told (taken_at line p.setup) past)))
    (when_ok c.tell.result c.tell.ensures.after (λ after. record {
      config = stands.config;
      board = stands.board;
      counters = stands.counters;
      timers = stands.timers;
      terminals = stands.terminals;
      listeners = each_set Hears c.pull_all.new.self.listeners.items p.setup.taken line c.tell.new.listener (taken_at line p.setup ++ p.octets)
          (subst (λ xs. Hears c.tell.new.listener (taken_at line p.setup ++ xs)) octets (after (taken_at line p.setup) past)) stands.listeners;
      losses = stands.losses;
    })))
