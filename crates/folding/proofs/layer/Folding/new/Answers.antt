use Rattle.folding.proofs.FingerTwins.{folds_twins}
use Rattle.folding.proofs.Narrows.{folds_well}
use Rattle.folding.proofs.layer.Folding.new.Goals as goal

pub returns-clause-folds : goal.returns-clause-folds
returns-clause-folds g c = folds_well c.args.limit (g.C.Circuit.list c.args.below) (g.C.Circuit.lawful c.args.below).each

pub returns-clause-twins : goal.returns-clause-twins
returns-clause-twins g c = folds_twins c.args.limit (g.C.Circuit.list c.args.below)
