use Rattle.string_images.proofs.Read as read
use Rattle.string_images.proofs.laws.read_surrogates_are_paired.Goals as goal

pub returns : goal.returns
returns c = read.read_surrogates_are_paired
