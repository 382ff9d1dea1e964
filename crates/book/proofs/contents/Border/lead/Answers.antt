use Rattle.std.proofs.Common.{sym, ap, ◌∙◌}
use Rattle.row.specs.declared.lead.Lead.TheVariants.{OnBorder}
use Rattle.book.proofs.Laying.{lead_inside, lead_outside}
use Rattle.book.proofs.contents.Border.lead.Goals as goal

pub returns-in-Some : goal.returns-in-Some
returns-in-Some c = lead_inside c.args.basis.now.terms c.args.self.now.terms c.args.e.now c.in-Some.place (sym c.place.ensures.value ∙ c.in-Some.is)

pub returns-in-None : goal.returns-in-None
returns-in-None c =
    ap OnBorder c.unwrap_or.ensures
    ∙ lead_outside c.args.basis.now.terms c.args.self.now.terms c.args.e.now c.place-in-None.result (sym c.place.ensures.value ∙ c.in-None.is) c.place-in-None.ensures.value
