use Rattle.ded_views.proofs.PlansAlike.{plans_alike, given_alike, read_alike, scanned_alike}
use Rattle.ded_views.proofs.laws.plans_alike.Goals as goal

pub returns-clause-means : goal.returns-clause-means
returns-clause-means c = plans_alike

pub returns-clause-given : goal.returns-clause-given
returns-clause-given c = given_alike

pub returns-clause-read : goal.returns-clause-read
returns-clause-read c = read_alike

pub returns-clause-scans : goal.returns-clause-scans
returns-clause-scans c = scanned_alike
