-- What is answered of the bytes of a file that shows a bound is answered from that file on.
use Rattle.std.proofs.Common.{◌≡◌, ℕ, ◌≤◌, List, Option, Some, Err, length}
use Rattle.outside.specs.declared.shelf.Loaded.TheVariants.{Whole}
use Rattle.outside.specs.Held.{Files, WhereTold}
use Rattle.commands.specs.declared.FileKind.TheVariants.{Tree, Proof}
use Rattle.commands.specs.declared.Verdict.{Verdict}
use Rattle.commands.specs.Readings.{most_of}
use Rattle.commands.specs.Procedures.{with_bytes}
use Rattle.commands.specs.Decides.{Follows}
use Rattle.commands.specs.Loads.{LoadsOf, LoadsFile, LoadsGive}
use Rattle.commands.proofs.LoadStages.{own_loaded, own_stops}
use Rattle.commands.proofs.OwnFiles.{bytes_follow, unread_follows}
use Rattle.bound_commands.specs.declared.bound_files.BoundFile.{BoundFile}
use Rattle.bound_commands.specs.declared.bound_files.BoundFile.TheVariants as shows
use Rattle.bound_commands.specs.Pictures.{claim_picture}
use Rattle.bound_commands.specs.ProofReadings.{SaysAcceptedProof, RefusesProof}
use Rattle.bound_commands.specs.ProofTexts.{bound_line as proof_bound_line}
use Rattle.bound_commands.specs.TreeReadings.{SaysAcceptedTree, RefusesTree}
use Rattle.bound_commands.specs.TreeTexts.{bound_line as tree_bound_line}
use Rattle.bound_commands.specs.BoundFiles.{kind_of, AnswersFile, with_file}

pub file_follows : (file : BoundFile) (name bytes : List ℕ) (held : Option Files) (before after : ℕ) (verdict : Verdict) → WhereTold held name (λ o. o ≡ Some bytes) → length bytes ≤ most_of (kind_of file) → AnswersFile file bytes verdict → Follows (with_file file name) held before after verdict
file_follows (shows.Tree both) name bytes held before after verdict told within a =
    bytes_follow Tree (SaysAcceptedTree both.now.soc both.now.limits) (RefusesTree both.now.soc both.now.limits) tree_bound_line name bytes held before after verdict told within a
file_follows (shows.Proof both) name bytes held before after verdict told within a =
    bytes_follow Proof (SaysAcceptedProof both.now.soc both.now.limits) (RefusesProof both.now.soc both.now.limits) proof_bound_line name bytes held before after verdict told within a
file_follows (shows.Claim all) name bytes held before after verdict told within a =
    bytes_follow Proof (SaysAcceptedProof all.now.soc all.now.limits) (RefusesProof all.now.soc all.now.limits) (claim_picture all.now.soc all.now.limits all.now.plan) name bytes held before after verdict told within a

pub file_unread : (file : BoundFile) (name : List ℕ) (held : Option Files) (before after : ℕ) (verdict : Verdict) → Follows (with_bytes (kind_of file) name) held before after verdict → Follows (with_file file name) held before after verdict
file_unread (shows.Tree both) name held before after verdict d =
    unread_follows Tree (SaysAcceptedTree both.now.soc both.now.limits) (RefusesTree both.now.soc both.now.limits) tree_bound_line name held before after verdict d
file_unread (shows.Proof both) name held before after verdict d =
    unread_follows Proof (SaysAcceptedProof both.now.soc both.now.limits) (RefusesProof both.now.soc both.now.limits) proof_bound_line name held before after verdict d
file_unread (shows.Claim all) name held before after verdict d =
    unread_follows Proof (SaysAcceptedProof all.now.soc all.now.limits) (RefusesProof all.now.soc all.now.limits) (claim_picture all.now.soc all.now.limits all.now.plan) name held before after verdict d

-- and so by the load of the file
pub file_loaded : {S : Type 0} (is_load : LoadsOf S) (file : BoundFile) (name bytes : List ℕ) (first last : S) (verdict : Verdict) → is_load first name (most_of (kind_of file)) Whole bytes last → AnswersFile file bytes verdict → LoadsGive is_load (with_file file name) first verdict last
file_loaded is_load (shows.Tree both) name bytes first last verdict load a =
    own_loaded is_load Tree (SaysAcceptedTree both.now.soc both.now.limits) (RefusesTree both.now.soc both.now.limits) tree_bound_line name bytes first last verdict load a
file_loaded is_load (shows.Proof both) name bytes first last verdict load a =
    own_loaded is_load Proof (SaysAcceptedProof both.now.soc both.now.limits) (RefusesProof both.now.soc both.now.limits) proof_bound_line name bytes first last verdict load a
file_loaded is_load (shows.Claim all) name bytes first last verdict load a =
    own_loaded is_load Proof (SaysAcceptedProof all.now.soc all.now.limits) (RefusesProof all.now.soc all.now.limits) (claim_picture all.now.soc all.now.limits all.now.plan) name bytes first last verdict load a

pub file_stops : {S : Type 0} (is_load : LoadsOf S) (file : BoundFile) (name : List ℕ) (first last : S) (verdict : Verdict) → LoadsFile is_load (kind_of file) name first (Err verdict) last → LoadsGive is_load (with_file file name) first verdict last
file_stops is_load (shows.Tree both) name first last verdict d =
    own_stops is_load Tree (SaysAcceptedTree both.now.soc both.now.limits) (RefusesTree both.now.soc both.now.limits) tree_bound_line name first last verdict d
file_stops is_load (shows.Proof both) name first last verdict d =
    own_stops is_load Proof (SaysAcceptedProof both.now.soc both.now.limits) (RefusesProof both.now.soc both.now.limits) proof_bound_line name first last verdict d
file_stops is_load (shows.Claim all) name first last verdict d =
    own_stops is_load Proof (SaysAcceptedProof all.now.soc all.now.limits) (RefusesProof all.now.soc all.now.limits) (claim_picture all.now.soc all.now.limits all.now.plan) name first last verdict d
