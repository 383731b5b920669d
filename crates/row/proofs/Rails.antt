-- Which nets of a row are one.
use Rattle.std.proofs.Common.{rules}
use Rattle.row.specs.Rows.{RailsAreShared}

pub rails_are_shared : RailsAreShared
rails_are_shared = search rules
