pub mod SideRead
