-- Comparing joined texts front by front.
use Rattle.std.proofs.Common.{◌≡◌, ℕ, zero, suc, ◌≤◌, List, [], ◌∷◌, ◌++◌, length, get_or, ◌-◌, ◌⊎◌, inl, inr, take, drop, refl, sym, ap, ◌∙◌, arith, Ordering, Less, Equal, Greater}
use Rattle.std.specs.Ordering.{nat_cmp, ordering_then, ordering_reverse}
use Rattle.std.specs.Cmp.Lexicographic.{slice_cmp, nat_list_cmp_total}
use Rattle.std.proofs.lemmas.List.{take_all}
use Rattle.acfg_base.specs.Names.{dot}

then_assoc : (a b c : Ordering) → ordering_then a (ordering_then b c) ≡ ordering_then (ordering_then a b) c
then_assoc Less b c = refl
then_assoc Equal b c = refl
then_assoc Greater b c = refl

-- two texts, each with another behind it, stand as their fronts of one length, and then as what is behind
pub fronts : (k : ℕ) (a x b y : List ℕ) → k ≤ length a → k ≤ length b
    → ordering_then (slice_cmp nat_cmp (take k a) (take k b)) (slice_cmp nat_cmp (drop k a ++ x) (drop k b ++ y)) ≡ slice_cmp nat_cmp (a ++ x) (b ++ y)
fronts zero a x b y inside within = refl
fronts (suc k) [] x b y inside within = absurd (omega arith)
fronts (suc k) (m ∷ a) x [] y inside within = absurd (omega arith)
fronts (suc k) (m ∷ a) x (n ∷ b) y inside within = sym (then_assoc (nat_cmp m n) _ _) ∙ ap (ordering_then (nat_cmp m n)) (fronts k a x b y (omega arith) (omega arith))

pub text_fronts : (k : ℕ) (a b y : List ℕ) → k ≤ length a → k ≤ length b
    → ordering_then (slice_cmp nat_cmp (take k a) (take k b)) (slice_cmp nat_cmp (drop k a) (drop k b ++ y)) ≡ slice_cmp nat_cmp a (b ++ y)
text_fronts zero a b y inside within = refl
text_fronts (suc k) [] b y inside within = absurd (omega arith)
text_fronts (suc k) (m ∷ a) [] y inside within = absurd (omega arith)
text_fronts (suc k) (m ∷ a) (n ∷ b) y inside within = sym (then_assoc (nat_cmp m n) _ _) ∙ ap (ordering_then (nat_cmp m n)) (text_fronts k a b y (omega arith) (omega arith))

-- a package goes on where the other has ended
pub goes_on : (rest name other other_name : List ℕ) → 1 ≤ length rest → (rest ≡ []) ⊎ (other ≡ [])
    → ordering_then (nat_cmp (get_or rest 0 0) dot) (ordering_reverse (slice_cmp nat_cmp other_name (take (length rest - 1) (drop 1 rest) ++ dot ∷ name))) ≡ slice_cmp nat_cmp (rest ++ dot ∷ name) (other ++ dot ∷ other_name)
goes_on [] name other other_name some ended = absurd (omega arith)
goes_on (b ∷ bs) name other other_name some (inl e) = cc
goes_on (b ∷ bs) name other other_name some (inr e) =
    let all : take (length (b ∷ bs) - 1) bs ≡ bs = take_all _ bs (omega arith) in
    ap (λ t. ordering_then (nat_cmp b dot) (ordering_reverse (slice_cmp nat_cmp other_name (t ++ dot ∷ name)))) all
    ∙ ap (ordering_then (nat_cmp b dot)) (sym (nat_list_cmp_total.antisymm (bs ++ dot ∷ name) other_name))
    ∙ ap (λ o. slice_cmp nat_cmp (b ∷ bs ++ dot ∷ name) (o ++ dot ∷ other_name)) (sym e)
