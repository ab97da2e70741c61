use Rattle.std.proofs.Common.{Some, sym, ap, ◌∙◌}
use Rattle.local_run.specs.Hearing.{rewound}
use Rattle.local_run.specs.Opening.{spent}
use Rattle.region_core.proofs.Kept.{still_sound, spent_sound, body_is}
use Rattle.region_core.proofs.Shown.{seen_as}
use Rattle.region_core.proofs.region.Region.rewind.Goals as goal

pub rewind-requires : goal.rewind-requires
rewind-requires c =
    body_is c.self.inside.place c.self.inside.live c.in-Some.live c.self.invariant c.in-Some.is

pub invariant_of-self-in-Ok : goal.invariant_of-self-in-Ok
invariant_of-self-in-Ok c =
    still_sound c.self.inside.place c.self.inside.live (Some c.rewind.new.self) c.self.invariant
    c.in-Ok.ensures.live

pub returns-in-Ok-clause-rewound : goal.returns-in-Ok-clause-rewound
returns-in-Ok-clause-rewound c =
    let home = c.self.inside.place.home in
    let floor = c.self.inside.place.floor in
    (λ i. record {
      home = home;
      floor = floor;
      run = Some (record {
        floor = floor;
        base = c.in-Ok.ensures.base i;
        heard = c.in-Ok.ensures.heard i;
        log = c.in-Ok.ensures.log i;
      });
    })
    ∙ ap (rewound c.args.at) (ap (seen_as home floor) (sym c.in-Some.is) ∙ c.self.view_is)

pub invariant_of-self-in-Err : goal.invariant_of-self-in-Err
invariant_of-self-in-Err c = spent_sound c.self.inside.place c.self.inside.live c.let_go.new.live
    c.self.invariant c.let_go.ensures

pub returns-in-Err-clause-spent : goal.returns-in-Err-clause-spent
returns-in-Err-clause-spent c =
    ap (seen_as c.self.inside.place.home c.self.inside.place.floor) c.let_go.ensures ∙ ap spent c.self.view_is

pub returns-in_default-clause-rewound : goal.returns-in_default-clause-rewound
returns-in_default-clause-rewound c =
    let seen = seen_as c.self.inside.place.home c.self.inside.place.floor in
    ap seen c.in_default.is ∙ ap (rewound c.args.at) (ap seen (sym c.in_default.is) ∙ c.self.view_is)
