use Rattle.pattern_query.proofs.AlongSteps.{put_along, stay_along}
use Rattle.pattern_query.proofs.search.Search.leave_along.Goals as goal

pub returns-in-Some : goal.returns-in-Some
returns-in-Some c =
    put_along c.args.self.now.network.now c.args.self.now.source c.args.self.now.to c.args.self.now.depart c.args.path.now c.args.points.now c.requires.slots c.requires.least
    c.in-Some.better c.in-Some.ensures.better

pub returns-in_default : goal.returns-in_default
returns-in_default c =
    stay_along c.args.self.now.network.now c.args.self.now.source c.args.self.now.to c.args.self.now.depart c.args.path.now c.args.points.now c.requires.slots c.in_default.ensures.none
