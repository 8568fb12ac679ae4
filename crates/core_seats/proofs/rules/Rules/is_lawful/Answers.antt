use Rattle.core_seats.proofs.rules.Rules.is_lawful.Goals as goal

pub returns : goal.returns
returns g c =
    let laws = g.met.A.Action g.world.𝓛 g.world.𝓜 g.world.𝓡 ((λ s x. x), (λ x. x), (λ x. x), λ x. x) in
    rw (← c.self.view_is) (record {
      validity = laws.validity c.self.inside.action.now;
      locality = laws.locality c.self.inside.action.now;
      footprint = laws.footprint c.self.inside.action.now;
    })
