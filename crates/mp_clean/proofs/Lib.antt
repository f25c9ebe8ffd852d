mod Cells
mod Levels
mod Used
mod PageTests
mod PagesToTree
mod TreeToPages
