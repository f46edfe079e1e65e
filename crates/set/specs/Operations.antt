-- The set's operations, for a product above it: what each answers, and the words that it leaves. This page passes names on, which a crate above may
-- cite; it unfolds none of them but codes and calls, which are abbreviations. It serves RULES 1, 2, 3, 9, 17 and 18.
pub use Rattle.tree.specs.State.{key_end}
-- Search, insert and delete (RULES 3), and by 02 (vii) (RULES 18) the smallest key at or above a given one, the number of keys of a span and its
-- deletion, on a pool; keys are below `key_end`.
pub use Rattle.updates.specs.Updating.{search_answer, insert_answer, insert_words, delete_answer, delete_words}
pub use Rattle.spans.specs.Spanning.{next_answer, count_answer, delete_span_answer, delete_span_words}
-- the audit as an answer (RULES 2.8)
pub use Rattle.set.specs.Inside.{audit_answer}
-- what a call answers and leaves, codes and numbers (RULES 9), the pool's length (RULES 1.1) and C
pub use Rattle.tree.specs.Codes.{code, code_of, number_of, answer_of}
pub use Rattle.format.specs.Performing.{Call, gives, refuses}
pub use Rattle.format.specs.Words.{length_good, slots_in}
