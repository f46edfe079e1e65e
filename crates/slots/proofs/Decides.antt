-- Each public contract decides its result and every lent word. Assumes nothing.
use Rattle.tree.proofs.Deciding.{DecidesResult, DecidesWords, equal}
use Rattle.slots.proofs.word.Kinds as word-kinds
use Rattle.slots.proofs.word.Reads as word-reads
use Rattle.slots.proofs.put_word.Kinds as put-word-kinds
use Rattle.slots.proofs.put_word.Reads as put-word-reads
use Rattle.slots.proofs.get_slot.Kinds as get-slot-kinds
use Rattle.slots.proofs.get_slot.Reads as get-slot-reads
use Rattle.slots.proofs.put_slot.Kinds as put-slot-kinds
use Rattle.slots.proofs.put_slot.Reads as put-slot-reads
use Rattle.slots.proofs.get_part.Kinds as get-part-kinds
use Rattle.slots.proofs.get_part.Reads as get-part-reads
use Rattle.slots.proofs.put_part.Kinds as put-part-kinds
use Rattle.slots.proofs.put_part.Reads as put-part-reads
use Rattle.slots.proofs.get_header.Kinds as get-header-kinds
use Rattle.slots.proofs.get_header.Reads as get-header-reads
use Rattle.slots.proofs.put_header.Kinds as put-header-kinds
use Rattle.slots.proofs.put_header.Reads as put-header-reads
use Rattle.slots.proofs.put_level.Kinds as put-level-kinds
use Rattle.slots.proofs.put_level.Reads as put-level-reads
use Rattle.slots.proofs.slots_in.Kinds as slots-in-kinds
use Rattle.slots.proofs.slots_in.Reads as slots-in-reads
use Rattle.slots.proofs.last_slot.Kinds as last-slot-kinds
use Rattle.slots.proofs.last_slot.Reads as last-slot-reads
use Rattle.slots.proofs.length_good.Kinds as length-good-kinds
use Rattle.slots.proofs.length_good.Reads as length-good-reads
use Rattle.slots.proofs.is_slot.Kinds as is-slot-kinds
use Rattle.slots.proofs.is_slot.Reads as is-slot-reads
use Rattle.slots.proofs.one_less.Kinds as one-less-kinds
use Rattle.slots.proofs.one_less.Reads as one-less-reads
use Rattle.slots.proofs.less_by.Kinds as less-by-kinds
use Rattle.slots.proofs.less_by.Reads as less-by-reads
use Rattle.slots.proofs.free_slot.Kinds as free-slot-kinds
use Rattle.slots.proofs.free_slot.Reads as free-slot-reads

pub word_decides : DecidesResult 1 word-kinds.ps word-kinds.r word-reads.Post
word_decides κs a x y e f p q = equal p q

pub put_word_decides : DecidesWords 1 put-word-kinds.ps put-word-kinds.r (λ κs e. e.0.now) put-word-reads.Post
put_word_decides κs a x y e f p q = equal p q

pub get_slot_decides : DecidesResult 1 get-slot-kinds.ps get-slot-kinds.r get-slot-reads.Post
get_slot_decides κs a x y e f p q = equal p q

pub put_slot_decides : DecidesWords 1 put-slot-kinds.ps put-slot-kinds.r (λ κs e. e.0.now) put-slot-reads.Post
put_slot_decides κs a x y e f p q = equal p q

pub get_part_decides : DecidesResult 1 get-part-kinds.ps get-part-kinds.r get-part-reads.Post
get_part_decides κs a x y e f p q = equal p q

pub put_part_decides : DecidesWords 1 put-part-kinds.ps put-part-kinds.r (λ κs e. e.0.now) put-part-reads.Post
put_part_decides κs a x y e f p q = equal p q

pub get_header_decides : DecidesResult 1 get-header-kinds.ps get-header-kinds.r get-header-reads.Post
get_header_decides κs a x y e f p q = equal p q

pub put_header_decides : DecidesWords 1 put-header-kinds.ps put-header-kinds.r (λ κs e. e.0.now) put-header-reads.Post
put_header_decides κs a x y e f p q = equal p q

pub put_level_decides : DecidesWords 1 put-level-kinds.ps put-level-kinds.r (λ κs e. e.0.now) put-level-reads.Post
put_level_decides κs a x y e f p q = equal p q

pub slots_in_decides : DecidesResult 1 slots-in-kinds.ps slots-in-kinds.r slots-in-reads.Post
slots_in_decides κs a x y e f p q = equal p q

pub last_slot_decides : DecidesResult 1 last-slot-kinds.ps last-slot-kinds.r last-slot-reads.Post
last_slot_decides κs a x y e f p q = equal p q

pub length_good_decides : DecidesResult 1 length-good-kinds.ps length-good-kinds.r length-good-reads.Post
length_good_decides κs a x y e f p q = equal p q

pub is_slot_decides : DecidesResult 1 is-slot-kinds.ps is-slot-kinds.r is-slot-reads.Post
is_slot_decides κs a x y e f p q = equal p q

pub one_less_decides : DecidesResult 0 one-less-kinds.ps one-less-kinds.r one-less-reads.Post
one_less_decides κs a x y e f p q = equal p q

pub less_by_decides : DecidesResult 0 less-by-kinds.ps less-by-kinds.r less-by-reads.Post
less_by_decides κs a x y e f p q = equal p q

pub free_slot_decides : DecidesResult 0 free-slot-kinds.ps free-slot-kinds.r free-slot-reads.Post
free_slot_decides κs a x y e f p q = equal p q
