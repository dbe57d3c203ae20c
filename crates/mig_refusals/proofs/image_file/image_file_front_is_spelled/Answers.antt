use Rattle.mig_refusals.proofs.Common.{recursion_from_All, ◌<◌}
use Rattle.mig_refusals.proofs.ImageFileFronts.{frames_spelled, parts_spelled}
use Rattle.mig_refusals.proofs.image_file.image_file_front_is_spelled.Goals as goal

pub returns : goal.returns
returns c = record {
  frames = λ widest front head n h few bytes within spelled. frames_spelled widest few front head n h (recursion_from_All (λ b. b < 256) front bytes) within spelled;
  parts = λ widest front count n framed h few bytes spelled. parts_spelled widest few front count n framed h (recursion_from_All (λ b. b < 256) front bytes) spelled;
}
