-- Each public contract of this crate decides its result. Assumes nothing.
use Rattle.tree.proofs.Deciding.{DecidesResult, equal}
use Rattle.format.proofs.Header.at_level.Kinds as header-at-level-kinds
use Rattle.format.proofs.Header.at_level.Reads as header-at-level-reads
use Rattle.format.proofs.Part.place.Kinds as part-place-kinds
use Rattle.format.proofs.Part.place.Reads as part-place-reads
use Rattle.format.proofs.Part.of.Kinds as part-of-kinds
use Rattle.format.proofs.Part.of.Reads as part-of-reads
use Rattle.format.proofs.RefusalFromUnsound.from.Kinds as refusal-from-kinds
use Rattle.format.proofs.RefusalFromUnsound.from.Reads as refusal-from-reads

pub header_at_level_decides : DecidesResult 0 header-at-level-kinds.ps header-at-level-kinds.r header-at-level-reads.Post
header_at_level_decides κs a x y e f p q = equal p q

pub part_place_decides : DecidesResult 0 part-place-kinds.ps part-place-kinds.r part-place-reads.Post
part_place_decides κs a x y e f p q = equal p q

pub part_of_decides : DecidesResult 0 part-of-kinds.ps part-of-kinds.r part-of-reads.Post
part_of_decides κs a x y e f p q = equal p q

-- of why a pool fails the audit, the refusal; of the audit's code, 0 too, `audited_code_decides` in crate chromatic
pub refusal_from_decides : DecidesResult 0 refusal-from-kinds.ps refusal-from-kinds.r refusal-from-reads.Post
refusal_from_decides κs a x y e f p q = equal p q
