-- How a read and a list of the tree follow what a run asks.
use Rattle.std.proofs.Common.{◌≡◌, ◌≤◌, ◌<◌, ℕ, ◌+◌, List, [], ◌∷◌, ◌++◌, length, map, take, Option, None, Some, Result, Ok, Err, refl, sym, ◌∙◌, ap, arith}
use Rattle.std.specs.Prelude.{IfSome, filter}
use Rattle.std.specs.Option.{option_map}
use Rattle.std.proofs.lemmas.Option.{IfSome_then}
use Rattle.std.proofs.lemmas.List.{length-take, take_all}
use Rattle.std.proofs.lemmas.Bool.{le-leb, lt-leb}
use Rattle.sq_base.specs.Files.{bytes_at, inside, entries, IsListing}
use Rattle.sq_base.specs.Tree.{TreeState, IsTreeCall, Reads, Lists, Answers, bytes_at_most}
use Rattle.sq_base.specs.declared.file.File.{File}
use Rattle.sq_base.specs.declared.tree.Listing.{Listing}
use Rattle.sq_base.specs.declared.tree.Listing.TheVariants.{File as IsFile, Folder}
use Rattle.sq_base.specs.declared.tree.TreeFault.{TreeFault}
use Rattle.sq_base.specs.declared.tree.TreeFault.TheVariants.{Missing as IsMissing, Failed as HasFailed, Memory as NoMemory}
use Rattle.sq_base.specs.declared.limits.TheConstants.{MOST_FILE_BYTES}
use Rattle.sq_plan.specs.declared.entries.Purpose.{Purpose}
use Rattle.sq_plan.specs.declared.read.Role.{Role}
use Rattle.sq_plan.specs.declared.halt.Halt.{Halt}
use Rattle.sq_plan.specs.declared.halt.Halt.TheVariants.{Refused, Missing, Failed, Memory}
use Rattle.sq_base.specs.declared.code.Code.TheVariants.{FileTooLong}
use Rattle.sq_plan.specs.Asked.{Follows, Judges}
use Rattle.sq_plan.specs.Halts.{IsHaltOf, IsRefusalOf}
use Rattle.sq_plan.specs.Reading.{refused_file, checked, whole_file, listed}
use Rattle.sq_plan.specs.Sources.{is_read, files_in, found_at}
use Rattle.sq_plan.proofs.Ordered.{sorted_same}
use Rattle.sq_plan.proofs.Steps.{if_told, called_ok, called_refused, called_halt}

-- what a call says where it found nothing
missing_only : (A : Type 0) (told : Option (List File)) (Found : List File → A → Type 0) (Nothing Q : List File → Type 0) (fault : TreeFault)
    → IfSome told (λ files. Answers (Found files) (Nothing files) (Err fault)) → ((files : List File) → Nothing files → Q files) → IfSome told (λ files. fault ≡ IsMissing → Q files)
missing_only A told Found Nothing Q IsMissing answer follows = IfSome_then told answer (λ files nothing _. follows files nothing)
missing_only A told Found Nothing Q HasFailed answer follows = if_told told (λ files is. absurd (cc is))
missing_only A told Found Nothing Q NoMemory answer follows = if_told told (λ files is. absurd (cc is))

-- a read that came within the limit gave the whole file
is_whole : (role : Role) (path bytes : List ℕ) (held : Option (List ℕ)) → length bytes ≤ MOST_FILE_BYTES → option_map (take (MOST_FILE_BYTES + 1)) held ≡ Some bytes → option_map (checked role path) held ≡ Some (Ok bytes)
is_whole role path bytes None fits is = absurd (cc is)
is_whole role path bytes (Some all) fits is =
    let cut : take (MOST_FILE_BYTES + 1) all ≡ bytes = cc is in
    let size : length all ≤ MOST_FILE_BYTES = omega (arith, ap length cut, length-take (MOST_FILE_BYTES + 1) all) in
    let same : all ≡ bytes = sym (take_all (MOST_FILE_BYTES + 1) all (omega arith)) ∙ cut in
    rw (le-leb (length all) MOST_FILE_BYTES size, same) refl

-- a read that went past the limit shows that the file is too long
is_too_long : (role : Role) (path bytes : List ℕ) (held : Option (List ℕ)) → MOST_FILE_BYTES < length bytes → option_map (take (MOST_FILE_BYTES + 1)) held ≡ Some bytes → option_map (checked role path) held ≡ Some (Err (refused_file role FileTooLong path ∷ []))
is_too_long role path bytes None long is = absurd (cc is)
is_too_long role path bytes (Some all) long is =
    let cut : take (MOST_FILE_BYTES + 1) all ≡ bytes = cc is in
    let size : MOST_FILE_BYTES < length all = omega (arith, ap length cut, length-take (MOST_FILE_BYTES + 1) all) in
    rw (lt-leb (length all) MOST_FILE_BYTES size) refl

pub read_ok : (role : Role) {path bytes : List ℕ} {old new : TreeState} → IsTreeCall old new (Ok bytes) → Reads MOST_FILE_BYTES path old (Ok bytes) → length bytes ≤ MOST_FILE_BYTES → Follows (whole_file role path) old new (Ok bytes)
read_ok role {path = path} {bytes = bytes} {old = old} call reads fits =
    called_ok path (λ files. option_map (checked role path) (bytes_at files path)) _ _ bytes bytes call (IfSome_then old.files reads.told (λ files is. is_whole role path bytes (bytes_at files path) fits is))

pub read_too_long : (role : Role) {path bytes : List ℕ} {old new : TreeState} (halt : Halt) → IsTreeCall old new (Ok bytes) → Reads MOST_FILE_BYTES path old (Ok bytes) → MOST_FILE_BYTES < length bytes → IsRefusalOf (refused_file role FileTooLong path ∷ []) halt
    → Follows (whole_file role path) old new (Err halt)
read_too_long role {path = path} {bytes = bytes} {old = old} halt call reads long halted =
    called_refused path (λ files. option_map (checked role path) (bytes_at files path)) _ _ bytes (refused_file role FileTooLong path ∷ []) halt call halted (IfSome_then old.files reads.told (λ files is. is_too_long role path bytes (bytes_at files path) long is))

pub read_halted : (role : Role) {path : List ℕ} {old new : TreeState} {fault : TreeFault} (halt : Halt) → IsTreeCall {A = List ℕ} old new (Err fault) → Reads MOST_FILE_BYTES path old (Err fault) → IsHaltOf fault path halt
    → Follows (whole_file role path) old new (Err halt)
read_halted role {path = path} {old = old} {fault = fault} halt call reads halted =
    called_halt {A = List ℕ} path (λ files. option_map (checked role path) (bytes_at files path)) _ _ fault halt call halted
    (missing_only (List ℕ) old.files (λ files bytes. bytes_at_most MOST_FILE_BYTES files path ≡ Some bytes) _ _ fault reads.told (λ files nothing. rw nothing refl))

-- a path at which something is listed, whose files were found
list_judged : (purpose : Purpose) {path : List ℕ} {old new : TreeState} (listing : Listing) (found : List (List ℕ)) (r : Result (List (List ℕ)) Halt) → IsTreeCall {A = Listing} old new (Ok listing)
    → IfSome old.files (λ files. found_at purpose path files ≡ Some found) → Judges (Ok found) r → Follows (listed purpose path) old new r
list_judged purpose {path = path} {old = old} listing found (Ok value) call stands judges =
    called_ok path _ _ _ listing value call (IfSome_then old.files stands (λ files is. ap (option_map (λ own. Ok own)) is ∙ ap Some judges))
list_judged purpose listing found (Err (Refused findings)) call stands judges = absurd (cc judges)
list_judged purpose listing found (Err (Missing path)) call stands judges = absurd judges
list_judged purpose listing found (Err (Failed path)) call stands judges = absurd judges
list_judged purpose {path = path} {old = old} listing found (Err Memory) call stands judges = record {
  files = call.files;
  faults = omega (arith, call.faults);
  missings = omega (arith, call.missings);
  asked = if_told old.files (λ files. record { made = path ∷ []; ends = ([], refl); calls = call.calls });
}

pub list_folder : (purpose : Purpose) {path : List ℕ} {names : List (List ℕ)} {old new : TreeState} (r : Result (List (List ℕ)) Halt) → IsTreeCall {A = Listing} old new (Ok (Folder names)) → Lists path old (Ok (Folder names))
    → Judges (Ok (files_in purpose path names)) r → Follows (listed purpose path) old new r
list_folder purpose {path = path} {names = names} {old = old} r call lists judges =
    list_judged purpose (Folder names) (files_in purpose path names) r call
    (IfSome_then old.files lists.told (λ files is. rw (is.0, is.1) (ap (λ (own : List (List ℕ)). Some (map (λ name. inside path ++ name) (filter (is_read purpose) own))) (sym (sorted_same (entries path files) names is.2)))))
    judges

pub list_found : (purpose : Purpose) {path : List ℕ} {old new : TreeState} (r : Result (List (List ℕ)) Halt) → IsTreeCall {A = Listing} old new (Ok IsFile) → Lists path old (Ok IsFile) → Judges (Ok (path ∷ [])) r
    → Follows (listed purpose path) old new r
list_found purpose {path = path} {old = old} r call lists judges = list_judged purpose IsFile (path ∷ []) r call (IfSome_then old.files lists.told (λ files is. rw is refl)) judges

pub list_halted : (purpose : Purpose) {path : List ℕ} {old new : TreeState} {fault : TreeFault} (halt : Halt) → IsTreeCall {A = Listing} old new (Err fault) → Lists path old (Err fault) → IsHaltOf fault path halt
    → Follows (listed purpose path) old new (Err halt)
list_halted purpose {path = path} {old = old} {fault = fault} halt call lists halted =
    called_halt {A = Listing} path _ _ _ fault halt call halted (missing_only Listing old.files (λ files listing. IsListing files path listing) _ _ fault lists.told (λ files nothing. rw (nothing.no_file, nothing.no_folder) refl))
