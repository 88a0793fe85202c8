-- Set operations over queries that fit.
use Rattle.std.proofs.Common.{◌≡◌, ◌&&◌, Bool, true, false, ◌||◌, List, [], ◌∷◌, ◌++◌, map, refl, subst, ap}
use Rattle.std.specs.List.{AllZip}
use Rattle.sq_catalog.specs.Contents.{Contents}
use Rattle.sq_core.specs.declared.routine.Change.{Change}
use Rattle.sq_core.specs.declared.routine.SetKind.{SetKind}
use Rattle.sq_core.specs.declared.routine.SetKind.TheVariants.{Union, Intersect, Except}
use Rattle.sq_core.specs.declared.routine.SetLink.{SetLink}
use Rattle.sq_core.specs.Answer.{Keeps, ◌>>=◌, stuck, all_of}
use Rattle.sq_core.specs.Frames.{Answered, Setting, IsBlank, AnsweredFits}
use Rattle.sq_core.specs.Items.{rise}
use Rattle.sq_core.specs.Joins.{changed_row, set_result, target_tags, same_tags, as_long, operated, QueryMeaning, operated_all, set_mark, set_kinds, ChangesTyped, LinkTyped, all_set_kinds, LinksTyped}
use Rattle.sq_core.specs.Operations.{become}
use Rattle.sq_core.specs.Values.{Row, Tag, Kind, kind_of, Fits, RowFits, RowsFit, tag}
use Rattle.sq_core.proofs.AnswerLemmas.{bind_keeps, tested_keeps, each_keeps}
use Rattle.sq_core.proofs.TypeLemmas.{or_left, or_right, both_true, same_type-same}
use Rattle.sq_core.proofs.ValueLemmas.{fits_as, fits_wider, arranged_keep}
use Rattle.sq_core.proofs.OperationLemmas.{become_keeps}
use Rattle.sq_core.proofs.FrameLemmas.{all_append, all_weaken}

-- the kinds of a side after its conversions
abbrev pub side_kinds : Contents → List Change → List Kind → List Kind
side_kinds contents (change ∷ changes) (k ∷ ks) = kind_of contents change.to k.nullable ∷ side_kinds contents changes ks
side_kinds contents _ _ = []

pub changed_row_keeps : (contents : Contents) (changes : List Change) (ks : List Kind) (row : Row) → ChangesTyped contents changes ks → RowFits ks row
    → Keeps (RowFits (side_kinds contents changes ks)) (changed_row contents changes row)
changed_row_keeps contents [] [] [] typed fit = λ oracle. tt
changed_row_keeps contents [] [] (v ∷ row) typed fit = absurd fit
changed_row_keeps contents [] (k ∷ ks) row typed fit = absurd typed
changed_row_keeps contents (change ∷ changes) [] row typed fit = absurd typed
changed_row_keeps contents (change ∷ changes) (k ∷ ks) [] typed fit = absurd fit
changed_row_keeps contents (change ∷ changes) (k ∷ ks) (v ∷ row) typed fit =
    bind_keeps (Fits (kind_of contents change.to k.nullable)) (RowFits (side_kinds contents (change ∷ changes) (k ∷ ks))) (become contents change.from change.to v) _
    (become_keeps contents change.from change.to k k.nullable v typed.0.1 typed.0.0 (λ e. e) fit.0)
    (λ w w_fits. bind_keeps (RowFits (side_kinds contents changes ks)) (RowFits (side_kinds contents (change ∷ changes) (k ∷ ks))) (changed_row contents changes row) _
    (changed_row_keeps contents changes ks row typed.1 fit.1) (λ rest rest_fits oracle. (w_fits, rest_fits)))

abbrev rest_of : {A : Type 0} → List A → List A
rest_of [] = []
rest_of (x ∷ xs) = xs

same_rest : {A : Type 0} (x y : A) (xs ys : List A) → x ∷ xs ≡ y ∷ ys → xs ≡ ys
same_rest x y xs ys same = ap rest_of same

left_grows : (of : SetKind) (left right : Bool) → left ≡ true → set_mark of left right ≡ true
left_grows Union left right is = or_left left right is
left_grows Intersect left right is = is
left_grows Except left right is = is

left_set : (contents : Contents) (of : SetKind) (changes others : List Change) (ls rs : List Kind) (row : Row) → ChangesTyped contents changes ls → ChangesTyped contents others rs
    → target_tags contents changes ≡ target_tags contents others → RowFits (side_kinds contents changes ls) row → RowFits (set_kinds contents of changes ls rs) row
left_set contents of [] others ls rs row typed others_typed same fit = fit
left_set contents of (c ∷ changes) others [] rs row typed others_typed same fit = absurd typed
left_set contents of (c ∷ changes) [] (l ∷ ls) rs row typed others_typed same fit = cc
left_set contents of (c ∷ changes) (d ∷ others) (l ∷ ls) [] row typed others_typed same fit = absurd others_typed
left_set contents of (c ∷ changes) (d ∷ others) (l ∷ ls) (r ∷ rs) [] typed others_typed same fit = absurd fit
left_set contents of (c ∷ changes) (d ∷ others) (l ∷ ls) (r ∷ rs) (v ∷ row) typed others_typed same fit = (
  fits_wider (tag contents c.to) l.nullable (set_mark of l.nullable r.nullable) v (left_grows of l.nullable r.nullable) fit.0,
  left_set contents of changes others ls rs row typed.1 others_typed.1 (same_rest _ _ _ _ same) fit.1,
)

right_set : (contents : Contents) (changes others : List Change) (ls rs : List Kind) (row : Row) → ChangesTyped contents changes ls → ChangesTyped contents others rs
    → target_tags contents changes ≡ target_tags contents others → RowFits (side_kinds contents others rs) row → RowFits (set_kinds contents Union changes ls rs) row
right_set contents [] [] ls rs row typed others_typed same fit = fit
right_set contents [] (d ∷ others) ls rs row typed others_typed same fit = cc
right_set contents (c ∷ changes) [] ls rs row typed others_typed same fit = cc
right_set contents (c ∷ changes) (d ∷ others) [] rs row typed others_typed same fit = absurd typed
right_set contents (c ∷ changes) (d ∷ others) (l ∷ ls) [] row typed others_typed same fit = absurd others_typed
right_set contents (c ∷ changes) (d ∷ others) (l ∷ ls) (r ∷ rs) [] typed others_typed same fit = absurd fit
right_set contents (c ∷ changes) (d ∷ others) (l ∷ ls) (r ∷ rs) (v ∷ row) typed others_typed same fit = (
  fits_as (kind_of contents d.to r.nullable) (tag contents c.to) (l.nullable || r.nullable) v (cc) (λ e. or_right l.nullable _ e) fit.0,
  right_set contents changes others ls rs row typed.1 others_typed.1 (same_rest _ _ _ _ same) fit.1,
)

set_blank : (contents : Contents) (of : SetKind) (changes others : List Change) (ls rs : List Kind) (row : Row) → ChangesTyped contents changes ls → ChangesTyped contents others rs
    → target_tags contents changes ≡ target_tags contents others → IsBlank ls row → IsBlank (set_kinds contents of changes ls rs) row
set_blank contents of [] others [] rs row typed others_typed same blank = blank
set_blank contents of [] others (l ∷ ls) rs row typed others_typed same blank = absurd typed
set_blank contents of (c ∷ changes) others [] rs row typed others_typed same blank = absurd typed
set_blank contents of (c ∷ changes) [] (l ∷ ls) rs row typed others_typed same blank = cc
set_blank contents of (c ∷ changes) (d ∷ others) (l ∷ ls) [] row typed others_typed same blank = absurd others_typed
set_blank contents of (c ∷ changes) (d ∷ others) (l ∷ ls) (r ∷ rs) [] typed others_typed same blank = absurd blank
set_blank contents of (c ∷ changes) (d ∷ others) (l ∷ ls) (r ∷ rs) (v ∷ row) typed others_typed same blank =
    (blank.0, set_blank contents of changes others ls rs row typed.1 others_typed.1 (same_rest _ _ _ _ same) blank.1)

same_tags-same : (ts : List Tag) → same_tags ts ts ≡ true
same_tags-same [] = refl
same_tags-same (t ∷ ts) = both_true _ _ (same_type-same t) (same_tags-same ts)

set_result_keeps : (contents : Contents) (of : SetKind) (all : Bool) (changes others : List Change) (ls rs : List Kind) (left right : List Row) → ChangesTyped contents changes ls → ChangesTyped contents others rs
    → target_tags contents changes ≡ target_tags contents others → RowsFit (side_kinds contents changes ls) left → RowsFit (side_kinds contents others rs) right
    → Keeps (RowsFit (set_kinds contents of changes ls rs)) (set_result of all left right)
set_result_keeps contents Union all changes others ls rs left right typed others_typed same left_fits right_fits = united all
  where
    both_sides : RowsFit (set_kinds contents Union changes ls rs) (left ++ right)
    both_sides = all_append (RowFits (set_kinds contents Union changes ls rs)) left right
        (all_weaken (RowFits (side_kinds contents changes ls)) (RowFits (set_kinds contents Union changes ls rs)) left left_fits (λ row fit. left_set contents Union changes others ls rs row typed others_typed same fit))
        (all_weaken (RowFits (side_kinds contents others rs)) (RowFits (set_kinds contents Union changes ls rs)) right right_fits (λ row fit. right_set contents changes others ls rs row typed others_typed same fit))

    united : (all : Bool) → Keeps (RowsFit (set_kinds contents Union changes ls rs)) (set_result Union all left right)
    united true = λ oracle. both_sides
    united false = arranged_keep (RowFits (set_kinds contents Union changes ls rs)) rise (left ++ right) both_sides
set_result_keeps contents Intersect all changes others ls rs left right typed others_typed same left_fits right_fits =
    arranged_keep (RowFits (set_kinds contents Intersect changes ls rs)) rise left
    (all_weaken (RowFits (side_kinds contents changes ls)) (RowFits (set_kinds contents Intersect changes ls rs)) left left_fits (λ row fit. left_set contents Intersect changes others ls rs row typed others_typed same fit))
set_result_keeps contents Except all changes others ls rs left right typed others_typed same left_fits right_fits =
    arranged_keep (RowFits (set_kinds contents Except changes ls rs)) rise left
    (all_weaken (RowFits (side_kinds contents changes ls)) (RowFits (set_kinds contents Except changes ls rs)) left left_fits (λ row fit. left_set contents Except changes others ls rs row typed others_typed same fit))

changes_long : (contents : Contents) (changes : List Change) (ks : List Kind) (blank : Row) → ChangesTyped contents changes ks → IsBlank ks blank → as_long changes blank ≡ true
changes_long contents [] [] [] typed fit = refl
changes_long contents [] [] (v ∷ blank) typed fit = absurd fit
changes_long contents [] (k ∷ ks) blank typed fit = absurd typed
changes_long contents (change ∷ changes) [] blank typed fit = absurd typed
changes_long contents (change ∷ changes) (k ∷ ks) [] typed fit = absurd fit
changes_long contents (change ∷ changes) (k ∷ ks) (v ∷ blank) typed fit = changes_long contents changes ks blank typed.1 fit.1

operated_keeps : (contents : Contents) (link : SetLink) (ls rs : List Kind) (left right : Answered) → LinkTyped contents link ls rs → AnsweredFits ls left → AnsweredFits rs right
    → Keeps (AnsweredFits (set_kinds contents link.kind link.left ls rs)) (operated contents link left right)
operated_keeps contents link ls rs left right typed left_fits right_fits =
    let ks : List Kind = set_kinds contents link.kind link.left ls rs in
    tested_keeps (AnsweredFits ks) (same_tags (target_tags contents link.left) (target_tags contents link.right) && (as_long link.left left.blank && as_long link.right right.blank)) _ stuck
    (both_true _ _ (subst (λ ts. same_tags (target_tags contents link.left) ts ≡ true) typed.same (same_tags-same (target_tags contents link.left)))
    (both_true _ _ (changes_long contents link.left ls left.blank typed.lefts left_fits.0) (changes_long contents link.right rs right.blank typed.rights right_fits.0)))
    (bind_keeps (RowsFit (side_kinds contents link.left ls)) (AnsweredFits ks) (all_of (map (changed_row contents link.left) left.rows)) _
    (each_keeps (RowFits ls) (RowFits (side_kinds contents link.left ls)) (changed_row contents link.left) left.rows left_fits.1 (λ row fit. changed_row_keeps contents link.left ls row typed.lefts fit))
    (λ lefts lefts_fit. bind_keeps (RowsFit (side_kinds contents link.right rs)) (AnsweredFits ks) (all_of (map (changed_row contents link.right) right.rows)) _
    (each_keeps (RowFits rs) (RowFits (side_kinds contents link.right rs)) (changed_row contents link.right) right.rows right_fits.1 (λ row fit. changed_row_keeps contents link.right rs row typed.rights fit))
    (λ rights rights_fit. bind_keeps (RowsFit ks) (AnsweredFits ks) (set_result link.kind link.all lefts rights) _
    (set_result_keeps contents link.kind link.all link.left link.right ls rs lefts rights typed.lefts typed.rights typed.same lefts_fit rights_fit)
    (λ rows rows_fit oracle. (set_blank contents link.kind link.left link.right ls rs left.blank typed.lefts typed.rights typed.same left_fits.0, rows_fit)))))

pub operated_all_keeps : (contents : Contents) (links : List SetLink) (kss : List (List Kind)) (queries : List QueryMeaning) (setting : Setting) (ls : List Kind) (left : Answered)
    → LinksTyped contents links kss ls → AllZip (λ ks query. Keeps (AnsweredFits ks) (query setting)) kss queries → AnsweredFits ls left
    → Keeps (AnsweredFits (all_set_kinds contents links kss ls)) (operated_all contents links queries setting left)
operated_all_keeps contents [] [] [] setting ls left typed keep fit = λ oracle. fit
operated_all_keeps contents [] [] (query ∷ queries) setting ls left typed keep fit = absurd keep
operated_all_keeps contents [] (ks ∷ kss) queries setting ls left typed keep fit = absurd typed
operated_all_keeps contents (link ∷ links) [] queries setting ls left typed keep fit = absurd typed
operated_all_keeps contents (link ∷ links) (ks ∷ kss) [] setting ls left typed keep fit = absurd keep
operated_all_keeps contents (link ∷ links) (ks ∷ kss) (query ∷ queries) setting ls left typed keep fit =
    bind_keeps (AnsweredFits (set_kinds contents link.kind link.left ls ks)) (AnsweredFits (all_set_kinds contents (link ∷ links) (ks ∷ kss) ls)) (query setting >>= operated contents link left) (operated_all contents links queries setting)
    (bind_keeps (AnsweredFits ks) (AnsweredFits (set_kinds contents link.kind link.left ls ks)) (query setting) (operated contents link left) keep.0 (λ right right_fits. operated_keeps contents link ls ks left right typed.0 fit right_fits))
    (λ answered answered_fits. operated_all_keeps contents links kss queries setting (set_kinds contents link.kind link.left ls ks) answered typed.1 keep.1 answered_fits)
