-- Examples of small texts: the trees that they say, and those that they do not.
use Rattle.std.specs.Prelude.{pos, neg_ℤ, true, false, [], ◌∷◌, codes}
use Rattle.cedar_json.specs.Numbers.{IsDecimal}
use Rattle.cedar_json.specs.Says.{Says, KeysDiffer}
use Rattle.cedar_json.specs.Texts.{Quotes}
use Rattle.cedar_json.specs.Tree.{Tree, tree, object, array, text, integer, boolean, null, no_items, item, no_members, member}

pub record TextExamples : Type 0 where
  -- a value with blanks beside it
  pub word : Says (codes " true ") (tree 1 5 (boolean true))
  -- `null` is a value of its own
  pub no_value : Says (codes "null") (tree 0 4 null)
  -- a word does not say another word
  pub another_word : Says (codes "true") (tree 0 4 (boolean false)) → ⊥
  -- a zero may have a minus
  pub zero : Says (codes "-0") (tree 0 2 (integer (pos 0)))
  -- an array of a number and a text
  pub of_array : Says (codes "[-20, \"a\"]") (tree 0 10 (array (item (tree 1 4 (integer (neg_ℤ (pos 20)))) (item (tree 6 9 (text (codes "a"))) no_items))))
  -- an array without items
  pub empty : Says (codes "[ ]") (tree 0 3 (array no_items))
  -- an object with one key
  pub of_object : Says (codes "{\"a\": {}}") (tree 0 9 (object (member (codes "a") 1 4 (tree 6 8 (object no_members)) no_members)))
  -- a number does not begin with a plus, nor with a zero before digits
  pub no_plus : IsDecimal (codes "+1") → ⊥
  pub no_zero : IsDecimal (codes "01") → ⊥
  pub no_negative_zero : IsDecimal (codes "-01") → ⊥
  -- a comma stands between two items
  pub no_comma : Says (codes "[1 2]") (tree 0 5 (array (item (tree 1 2 (integer (pos 1))) (item (tree 3 4 (integer (pos 2))) no_items)))) → ⊥
  -- a key does not stand twice, with any values
  pub same_key : (x y : Tree) → KeysDiffer (member (codes "a") 1 4 x (member (codes "a") 8 11 y no_members)) → ⊥
  -- escapes: a line feed, a letter by its code, and a character by two surrogates
  pub line_feed : Quotes (codes "\"\\n\"") 0 4 (10 ∷ [])
  pub by_code : Quotes (codes "\"\\u0041\"") 0 8 (codes "A")
  pub by_pair : Quotes (codes "\"\\ud83d\\ude00\"") 0 14 (240 ∷ 159 ∷ 152 ∷ 128 ∷ [])
